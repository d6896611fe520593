use Rattle.std.proofs.Common.{◌≡◌, arith, length-append}
use Rattle.latent_natives.proofs.SleepLists.{not_before-append, not_before-less}
use Rattle.latent_natives.proofs.sleepers.Sleepers.of_sides.Goals as goal

pub invariant_of-result : goal.invariant_of-result
invariant_of-result c =
    let on_left : c.in_ok-new.field-0.value ≡ c.args.left = grind arith in
    let on_right : c.in_ok-new-2.field-0.value ≡ c.args.right = grind arith in
    rw (on_left, on_right) (omega (arith, length-append c.args.left c.args.right, c.count.ensures, c.count-2.ensures), not_before-append c.min-earliest.result c.args.left c.args.right (not_before-less c.min-earliest.result c.earliest.result c.args.left (grind arith) c.earliest.ensures) (not_before-less c.min-earliest.result c.earliest-2.result c.args.right (grind arith) c.earliest-2.ensures), c.requires.filled, omega (arith, c.count.ensures, c.count-2.ensures, c.requires.few))
