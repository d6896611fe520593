use Rattle.expression_rules.specs.Ranges.{bounds_of}
use Rattle.expression_rules.proofs.scope.Context.element_target.Goals as goal

pub returns-in-Some : goal.returns-in-Some
returns-in-Some c = λ known.
    let b = bounds_of c.args.self.now in
    let array = c.in_ok-array.ensures known in
    (array.core, c.in_ok-place.ensures b tt (c.in_ok-index.ensures known), c.in-Some.ensures b.functions array.kind)
