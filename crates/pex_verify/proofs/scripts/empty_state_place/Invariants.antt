use Rattle.std.proofs.Common.{◌≡◌, ℕ, ◌<◌, eqb, false, get_or}
use Rattle.pex_values.specs.declared.values.PexState.{PexState}
use Rattle.pex_verify.specs.Signatures.{number_at}
use Rattle.pex_verify.proofs.scripts.empty_state_place.Given as goal

abbrev pub invariant-loop-place : goal.invariant-loop-place
invariant-loop-place l =
    (k : ℕ) (s : PexState) → k < l.place → eqb (number_at l.names (get_or l.object.states.items k s).name) 0 ≡ false
