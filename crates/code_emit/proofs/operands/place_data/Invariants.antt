use Rattle.std.proofs.Common.{length, take}
use Rattle.std.specs.List.{AllByRecursion}
use Rattle.pex_values.specs.Shape.{IsShapedDatum}
use Rattle.code_emit.specs.Spelled.{Each, SpellsPlace}
use Rattle.code_emit.specs.Writing.{GoesOn}
use Rattle.code_emit.proofs.operands.place_data.Given as goal

abbrev pub invariant-loop-place : goal.invariant-loop-place
invariant-loop-place l = record {
  goes : GoesOn l.initial.strings l.strings;
  each : AllByRecursion (IsShapedDatum (length l.strings.strings)) l.found.items;
  spelled : Each (SpellsPlace (record { table = l.strings; slots = l.slots })) l.found.items (take l.place-index l.places);
}
