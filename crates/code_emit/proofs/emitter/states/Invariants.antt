use Rattle.std.proofs.Common.{length, map, take}
use Rattle.std.specs.List.{AllByRecursion}
use Rattle.core_tree.specs.Set.{state_of}
use Rattle.pex_values.specs.Plain.{plain_state, plain_lines}
use Rattle.pex_values.specs.Shape.{IsShapedState}
use Rattle.code_emit.specs.Spelled.{EachWith, SpellsState}
use Rattle.code_emit.specs.Strings.{origin_of}
use Rattle.code_emit.specs.Writing.{GoesOn, Notes}
use Rattle.code_emit.proofs.emitter.states.Given as goal

abbrev pub invariant-loop-state : goal.invariant-loop-state
invariant-loop-state l = record {
  goes : GoesOn l.initial.writer.strings l.writer.strings;
  each : AllByRecursion (IsShapedState (length l.writer.strings.strings)) (map plain_state l.found.items);
  spelled : Notes (length l.writer.strings.strings) (map plain_lines l.initial.writer.debug.items) (map plain_lines l.writer.debug.items) (EachWith (SpellsState (origin_of l.source) l.writer.strings) (map plain_state l.found.items) (map state_of (take l.state-index l.states)));
}
