use Rattle.std.proofs.Common.{◌≡◌, IfOk, arith, subst}
use Rattle.latent_natives.proofs.SleepLists.{halves}
use Rattle.latent_natives.proofs.sleepers.Sleepers.+with_room.Goals as goal

pub returns-in_ok-right-in_default : goal.returns-in_ok-right-in_default
returns-in_ok-right-in_default t c = subst (λ xs. IfOk c.of_sides.result (λ t'. t' ≡ xs)) (halves c.args.stacks c.in_ok-left-in_default.left c.in_ok-right-in_default.right (grind arith) (grind arith)) c.of_sides.ensures
