use Rattle.expression_rules.specs.Ranges.{bounds_of}
use Rattle.expression_rules.proofs.scope.Context.store.Goals as goal

pub returns : goal.returns
returns c = λ target value.
    let b = bounds_of c.args.self.now in
    c.stored.ensures b target (rw c.into_inner.ensures (c.in_ok-core.ensures b (c.kind.ensures b target) value))
