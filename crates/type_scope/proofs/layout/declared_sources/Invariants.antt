-- The variables so far are among the sources.
use Rattle.std.proofs.Common.{◌≡◌, map, take}
use Rattle.type_scope.specs.Sources.{declaration, of_variable}
use Rattle.type_scope.proofs.layout.declared_sources.Given as goal

abbrev pub invariant-loop-variable : goal.invariant-loop-variable
invariant-loop-variable l = map declaration l.sources.items ≡ map of_variable (take l.variable-index l.variables)
