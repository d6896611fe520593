-- None of the states so far is Auto.
use Rattle.std.proofs.Common.{◌≡◌, drop}
use Rattle.type_rules.specs.Heads.{auto_state_of}
use Rattle.type_rules.proofs.members.auto_state.Given as goal

abbrev pub invariant-loop-state : goal.invariant-loop-state
invariant-loop-state l = auto_state_of (drop l.state-index l.states) ≡ auto_state_of l.states
