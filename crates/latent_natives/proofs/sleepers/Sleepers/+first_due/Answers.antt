use Rattle.std.proofs.Common.{◌≡◌, sym, ap, ◌∙◌, subst, arith, position, length, None}
use Rattle.latent_natives.specs.SleepTree.{sleeps}
use Rattle.latent_natives.specs.Sleepers.{is_due}
use Rattle.latent_natives.proofs.SleepLists.{none_due, on_left, on_right, on_neither, fits}
use Rattle.latent_natives.proofs.sleepers.Sleepers.+first_due.Goals as goal

pub returns-then-turn-self : goal.returns-then-turn-self
returns-then-turn-self t c = sym (subst (λ xs. position (is_due c.args.turn) xs ≡ None) c.self.view_is (none_due _ _ _ c.if-turn-self.true c.self.invariant.1))

pub returns-then-is_some : goal.returns-then-is_some
returns-then-is_some t c = on_left c.args.turn c.args.self.now c.in-Two.left.value c.in-Two.right.value c.first_due-on_left.result (sym c.self.view_is ∙ ap sleeps c.in-Two.is) (grind arith) (grind arith)

pub overflow_add-result : goal.overflow_add-result
overflow_add-result t c = record { fits = fits c.args.turn c.count.result c.self.inside.count c.args.self.now c.in-Two.left.value c.in-Two.right.value c.in-Some.stack (sym c.self.view_is ∙ ap sleeps c.in-Two.is) (grind arith) (grind arith) (c.self.invariant.0 ∙ ap length c.self.view_is) c.self.invariant.3 }

pub returns-in-Some : goal.returns-in-Some
returns-in-Some t c = on_right c.args.turn c.count.result c.args.self.now c.in-Two.left.value c.in-Two.right.value c.first_due-on_left.result c.in-Some.stack (sym c.self.view_is ∙ ap sleeps c.in-Two.is) (grind arith) (grind arith) (grind arith) (grind arith)

pub returns-in-None : goal.returns-in-None
returns-in-None t c = on_neither c.args.turn c.args.self.now c.in-Two.left.value c.in-Two.right.value c.first_due-on_left.result (sym c.self.view_is ∙ ap sleeps c.in-Two.is) (grind arith) (grind arith) (grind arith)
