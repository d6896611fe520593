use Rattle.std.proofs.Common.{length, take}
use Rattle.std.specs.List.{AllByRecursion}
use Rattle.pex_values.specs.Shape.{ArePair}
use Rattle.code_emit.specs.Spelled.{SpellsSlots}
use Rattle.code_emit.specs.Writing.{GoesOn}
use Rattle.code_emit.proofs.functions.slots.Given as goal

abbrev pub invariant-loop-number : goal.invariant-loop-number
invariant-loop-number l = record {
  goes : GoesOn l.initial.strings l.strings;
  each : AllByRecursion (ArePair (length l.strings.strings)) l.slots.items;
  spelled : SpellsSlots l.strings 0 l.slots.items (take l.number l.kinds);
}
