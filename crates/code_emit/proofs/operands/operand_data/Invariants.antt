use Rattle.std.proofs.Common.{length, take}
use Rattle.std.specs.List.{AllByRecursion}
use Rattle.pex_values.specs.Shape.{IsShapedDatum}
use Rattle.code_emit.specs.Spelled.{Each, SpellsOperand}
use Rattle.code_emit.specs.Writing.{GoesOn}
use Rattle.code_emit.proofs.operands.operand_data.Given as goal

abbrev pub invariant-loop-operand : goal.invariant-loop-operand
invariant-loop-operand l = record {
  goes : GoesOn l.initial.strings l.strings;
  each : AllByRecursion (IsShapedDatum (length l.strings.strings)) l.found.items;
  spelled : Each (SpellsOperand (record { table = l.strings; slots = l.slots })) l.found.items (take l.operand-index l.operands);
}
