use Rattle.std.proofs.Common.{rules, arith, sym, ap, ◌∙◌}
use Rattle.latent_natives.specs.SleepTree.{sleeps}
use Rattle.latent_natives.proofs.SleepLists.{set_left, set_right}
use Rattle.latent_natives.proofs.sleepers.Sleepers.+set.Goals as goal
use Rattle.latent_natives.proofs.sleepers.Sleepers.+set.Goals.{in-Empty, in-One, in-Two+then-stack-middle, in-Two+else-stack-middle}

pub returns : goal.returns
returns t c =
    elim c.match-self.branch [
      | in-Empty w ↦ search rules
      | in-One w ↦ search rules
      | in-Two+then-stack-middle w ↦ rw w.self-inside-is (set_left c.args.stack c.args.until c.args.self.now w.in-Two.left.value w.in-Two.right.value w.set.new.self (sym c.self.view_is ∙ ap sleeps w.in-Two.is) (grind arith) (grind arith))
      | in-Two+else-stack-middle w ↦ rw w.self-inside-is (set_right c.args.stack w.count-middle.result c.args.until c.args.self.now w.in-Two.left.value w.in-Two.right.value w.set-else-stack-middle.new.self (sym c.self.view_is ∙ ap sleeps w.in-Two.is) (grind arith) (grind arith) (grind arith))
    ]
