use Rattle.std.proofs.Common.{◌≡◌, drop}
use Rattle.pex_verify.specs.Outlining.{functions_without_state}
use Rattle.pex_verify.proofs.outlining.empty_state.Given as goal

abbrev pub invariant-loop-state : goal.invariant-loop-state
invariant-loop-state l =
    functions_without_state (drop l.state-index l.script.states.items) ≡ functions_without_state l.script.states.items
