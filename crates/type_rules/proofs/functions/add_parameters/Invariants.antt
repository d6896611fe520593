-- Parameters were added to what there was.
use Rattle.std.proofs.Common.{◌≡◌, ◌++◌, map, take}
use Rattle.type_rules.specs.Heads.{parameter_type}
use Rattle.type_rules.specs.Ranges.{Grows, known, scope_set}
use Rattle.type_rules.proofs.functions.add_parameters.Given as goal

abbrev pub invariant-loop-parameter : goal.invariant-loop-parameter
invariant-loop-parameter l = record {
  grows : Grows l.fn.scope l.scope;
  added : map known l.scope.locals.kinds.items ≡ map known l.fn.scope.locals.kinds.items ++ map (parameter_type (scope_set l.fn.scope)) (take l.parameter-index l.parameters);
}
