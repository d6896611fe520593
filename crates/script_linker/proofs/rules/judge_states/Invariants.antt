use Rattle.std.specs.List.{flat_map}
use Rattle.papy_base.specs.Earliest.{FindsAmong}
use Rattle.script_parser.specs.Lines.{state_lines}
use Rattle.script_linker.proofs.rules.judge_states.Given as goal

abbrev pub invariant-loop-state : goal.invariant-loop-state
invariant-loop-state l = FindsAmong (flat_map state_lines l.states) l.initial.first l.first
