use Rattle.std.proofs.Common.{length, take}
use Rattle.std.specs.List.{AllByRecursion}
use Rattle.pex_values.specs.Shape.{IsShapedVariable}
use Rattle.code_emit.specs.Spelled.{Each, SpellsVariable}
use Rattle.code_emit.specs.Writing.{GoesOn}
use Rattle.code_emit.proofs.emitter.variables.Given as goal

abbrev pub invariant-loop-variable : goal.invariant-loop-variable
invariant-loop-variable l = record {
  goes : GoesOn l.initial.strings l.strings;
  each : AllByRecursion (IsShapedVariable (length l.strings.strings)) l.found.items;
  spelled : Each (SpellsVariable l.strings) l.found.items (take l.variable-index l.variables);
}
