use Rattle.std.proofs.Common.{◌≡◌, ◌+◌, ◌<◌, Bool, false, length, get_or, take, refl, arith}
use Rattle.pex_verify.proofs.Lists.{all_grown}
use Rattle.pex_verify.proofs.Pairs.{take_next}
use Rattle.pex_verify.proofs.verifier.judge_objects.Goals as goal

pub loop-number-preserved : goal.loop-number-preserved
loop-number-preserved c =
    let marks = c.deref-circle-items.result.now in
    let i = c.loop-number.number in
    let mark : Bool = get_or marks i false in
    let within : i < length marks = omega arith in
    all_grown (λ (m : Bool). m ≡ false) (take i marks) (take (i + 1) marks) mark (take_next marks i mark false within refl) c.loop-number.invariant (c.object_rule.ensures c.in_default.is)
