use Rattle.expression_rules.proofs.scope.Context.result_of.Goals as goal

pub returns-in-Some : goal.returns-in-Some
returns-in-Some c =
    let found = c.type_of-found.ensures.in_range in
    (found, c.from_type.ensures _ found)
