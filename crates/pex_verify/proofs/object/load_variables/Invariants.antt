use Rattle.std.proofs.Common.{◌≡◌, map, take, vec_len}
use Rattle.pex_verify.specs.Soundness.{AreTyped}
use Rattle.pex_verify.specs.Variables.{variable_type, type_of_variable, AreVariables}
use Rattle.pex_verify.proofs.object.load_variables.Given as goal

abbrev pub invariant-loop-variable : goal.invariant-loop-variable
invariant-loop-variable l =
    AreTyped (vec_len l.loader.set.now.heads) l.variables.list.items × (map variable_type l.variables.list.items ≡ map (type_of_variable l.loader.set.now.types l.source.names.now) (take l.variable-index l.object.variables.items)) × AreVariables l.source (take l.variable-index l.object.variables.items) l.variables.list.items
