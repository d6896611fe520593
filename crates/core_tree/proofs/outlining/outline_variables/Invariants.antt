use Rattle.std.proofs.Common.{◌≡◌, map, take}
use Rattle.core_tree.specs.Outlines.{variable_outline}
use Rattle.core_tree.proofs.outlining.outline_variables.Given as goal

abbrev pub invariant-loop-variable : goal.invariant-loop-variable
invariant-loop-variable l = l.found.items ≡ map variable_outline (take l.variable-index l.variables)
