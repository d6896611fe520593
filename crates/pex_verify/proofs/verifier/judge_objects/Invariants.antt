use Rattle.std.proofs.Common.{◌≡◌, false, All, take}
use Rattle.pex_verify.proofs.verifier.judge_objects.Given as goal

abbrev pub invariant-loop-number : goal.invariant-loop-number
invariant-loop-number l = All (λ mark. mark ≡ false) (take l.number l.circle-items)
