use Rattle.std.proofs.Common.{ℕ, ◌<◌}
use Rattle.std.specs.Prelude.{slice_get, slice_index_or}
use Rattle.pex_verify.specs.declared.judged.JudgedOperand.{JudgedOperand as Operand}
use Rattle.pex_verify.specs.Accepted.{ParameterFits}
use Rattle.pex_verify.proofs.operand_rules.each_fits.Given as goal

abbrev pub invariant-loop-place : goal.invariant-loop-place
invariant-loop-place l =
    (k : ℕ) (d : Operand) → k < l.place → ParameterFits l.scope (slice_get l.kinds k) (slice_index_or l.arguments k d)
