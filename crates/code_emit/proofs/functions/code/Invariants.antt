use Rattle.std.proofs.Common.{length, map, take}
use Rattle.std.specs.List.{AllByRecursion}
use Rattle.pex_values.specs.Plain.{plain_instruction}
use Rattle.pex_values.specs.Shape.{IsShapedInstruction}
use Rattle.code_emit.specs.Spelled.{Each, SpellsInstruction}
use Rattle.code_emit.specs.Writing.{GoesOn}
use Rattle.code_emit.proofs.functions.code.Given as goal

abbrev pub invariant-loop-each : goal.invariant-loop-each
invariant-loop-each l = record {
  goes : GoesOn l.initial.strings l.strings;
  each : AllByRecursion (IsShapedInstruction (length l.strings.strings)) (map plain_instruction l.code.items);
  spelled : Each (SpellsInstruction (record { table = l.strings; slots = l.slots })) (map plain_instruction l.code.items) (map (λ i. i.0) (take l.each-index l.coded));
}
