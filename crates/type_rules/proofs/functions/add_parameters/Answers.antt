use Rattle.std.proofs.Common.{arith, map}
use Rattle.type_rules.proofs.Heads.{parameters-push}
use Rattle.type_rules.proofs.Scopes.{grows-further}
use Rattle.type_rules.specs.Ranges.{known, scope_set}
use Rattle.type_rules.proofs.functions.add_parameters.Goals as goal

pub loop-parameter-preserved : goal.loop-parameter-preserved
loop-parameter-preserved c =
    let entry = c.args.scope.now in
    let before = c.loop-parameter.scope in
    let so_far = c.loop-parameter.invariant in
    let added = rw so_far.grows.catalog at c.in_ok-add_parameter.ensures.added in
    record {
      grows = grows-further entry before c.add_parameter.new.scope so_far.grows c.in_ok-add_parameter.ensures.grows;
      added = parameters-push (scope_set entry) c.args.parameters.now c.loop-parameter.parameter-index (map known entry.locals.kinds.items) before.locals.kinds.items c.add_parameter.new.scope.locals.kinds.items c.parameter-item.result (omega arith) c.parameter-item.is added so_far.added;
    }
