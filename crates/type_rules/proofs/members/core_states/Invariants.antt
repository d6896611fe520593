-- The empty state and the states so far are there and in range.
use Rattle.std.proofs.Common.{◌≡◌, ◌∷◌, [], map, take}
use Rattle.std.specs.List.{All}
use Rattle.type_rules.specs.Heads.{core_state_head, function_head, state_head}
use Rattle.type_rules.specs.Ranges.{CoreStateInRange, KeepsScript, WorkInRange, set_of}
use Rattle.type_rules.proofs.members.core_states.Given as goal

abbrev pub invariant-loop-state : goal.invariant-loop-state
invariant-loop-state l = record {
  heads : map core_state_head l.found.items ≡ record { name = []; functions = map (function_head (set_of l.fn.work)) l.script.functions.items } ∷ map (state_head (set_of l.fn.work)) (take l.state-index l.script.states.items);
  kept : KeepsScript l.fn.work l.work;
  in_range : WorkInRange l.fn.work → All (CoreStateInRange l.fn.work) l.found.items;
}
