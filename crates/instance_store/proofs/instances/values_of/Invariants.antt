use Rattle.std.proofs.Common.{◌≡◌, map, take}
use Rattle.core_tree.specs.declared.outline.OutlineVariable.{OutlineVariable}
use Rattle.instance_store.proofs.instances.values_of.Given as goal

abbrev pub invariant-loop-variable : goal.invariant-loop-variable
invariant-loop-variable l = l.values.items ≡ map (λ (variable : OutlineVariable). variable.value) (take l.variable-index l.variables)
