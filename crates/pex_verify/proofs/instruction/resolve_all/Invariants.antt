use Rattle.std.proofs.Common.{◌≡◌, ℕ, ◌<◌, ◌≤◌, length, vec_len, vec_capacity}
use Rattle.std.specs.Prelude.{slice_index_or}
use Rattle.pex_values.specs.declared.values.Datum.{Datum}
use Rattle.pex_verify.specs.declared.judged.JudgedOperand.{JudgedOperand as Operand}
use Rattle.pex_verify.specs.Found.{IsTold}
use Rattle.pex_verify.specs.Soundness.{AreResolved}
use Rattle.pex_verify.specs.Uses.{use_at}
use Rattle.pex_verify.proofs.instruction.resolve_all.Given as goal

abbrev pub invariant-loop-place : goal.invariant-loop-place
invariant-loop-place l =
    (vec_len l.operands ≡ l.place) × ((length l.data ≤ vec_capacity l.operands) × (AreResolved (vec_len l.scope.slots.now.list) (vec_len l.scope.home.now.variables.now.list) l.uses l.operands.items × ((k : ℕ) (d : Operand) (e : Datum) → k < length l.operands.items → IsTold l.scope (use_at l.uses k) (slice_index_or l.data k e) (slice_index_or l.operands.items k d))))
