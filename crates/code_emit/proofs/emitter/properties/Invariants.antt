use Rattle.std.proofs.Common.{length, map, take}
use Rattle.std.specs.List.{AllByRecursion}
use Rattle.core_tree.specs.Set.{property_of}
use Rattle.pex_values.specs.Plain.{plain_property, plain_lines}
use Rattle.pex_values.specs.Shape.{IsShapedProperty}
use Rattle.code_emit.specs.Spelled.{EachWith, SpellsProperty}
use Rattle.code_emit.specs.Strings.{origin_of}
use Rattle.code_emit.specs.Writing.{GoesOn, Notes}
use Rattle.code_emit.proofs.emitter.properties.Given as goal

abbrev pub invariant-loop-property : goal.invariant-loop-property
invariant-loop-property l = record {
  goes : GoesOn l.initial.writer.strings l.writer.strings;
  each : AllByRecursion (IsShapedProperty (length l.writer.strings.strings)) (map plain_property l.found.items);
  spelled : Notes (length l.writer.strings.strings) (map plain_lines l.initial.writer.debug.items) (map plain_lines l.writer.debug.items) (EachWith (SpellsProperty (origin_of l.source) l.writer.strings) (map plain_property l.found.items) (map property_of (take l.property-index l.properties)));
}
