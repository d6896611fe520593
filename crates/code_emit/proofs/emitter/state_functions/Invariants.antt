use Rattle.std.proofs.Common.{length, map, take}
use Rattle.std.specs.List.{AllByRecursion}
use Rattle.core_tree.specs.Set.{function_of}
use Rattle.pex_values.specs.Plain.{plain_named, plain_lines}
use Rattle.pex_values.specs.Shape.{IsShapedNamed}
use Rattle.code_emit.specs.Spelled.{EachWith, SpellsNamed}
use Rattle.code_emit.specs.Strings.{origin_of}
use Rattle.code_emit.specs.Writing.{GoesOn, Notes}
use Rattle.code_emit.proofs.emitter.state_functions.Given as goal

abbrev pub invariant-loop-each : goal.invariant-loop-each
invariant-loop-each l = record {
  goes : GoesOn l.initial.writer.strings l.writer.strings;
  each : AllByRecursion (IsShapedNamed (length l.writer.strings.strings)) (map plain_named l.found.items);
  spelled : Notes (length l.writer.strings.strings) (map plain_lines l.initial.writer.debug.items) (map plain_lines l.writer.debug.items) (EachWith (SpellsNamed (origin_of l.source) l.writer.strings l.state) (map plain_named l.found.items) (map function_of (take l.each-index l.functions)));
}
