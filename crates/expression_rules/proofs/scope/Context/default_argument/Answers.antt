use Rattle.expression_rules.specs.Ranges.{bounds_of}
use Rattle.expression_rules.proofs.scope.Context.default_argument.Goals as goal

pub returns-then-default_fits : goal.returns-then-default_fits
returns-then-default_fits c = λ known.
    let b = bounds_of c.args.self.now in
    c.convert.ensures b known (c.in_ok-value.ensures c.in_ok-literal.ensures.in_range (c.kind_of.ensures.in_range b.functions))

pub returns-else-default_fits : goal.returns-else-default_fits
returns-else-default_fits c = λ known.
    (c.in_ok-value.ensures c.in_ok-literal.ensures.in_range (c.kind_of.ensures.in_range (bounds_of c.args.self.now).functions)).core
