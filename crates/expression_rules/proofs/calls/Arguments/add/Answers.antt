use Rattle.std.proofs.Common.{rules, ◌≡◌, refl}
use Rattle.expression_rules.proofs.ArgumentLemmas.{arguments-more}
use Rattle.expression_rules.proofs.calls.Arguments.add.Goals as goal

pub returns : goal.returns
returns c = λ b count so_far here.
    let number : c.in-Ok.number ≡ c.args.place = search rules in
    arguments-more b count c.args.self.now _ c.args.place c.args.core c.requires.free refl c.in_ok-push.ensures.items (cc (c.in_ok-push-2.ensures.items, number)) so_far here
