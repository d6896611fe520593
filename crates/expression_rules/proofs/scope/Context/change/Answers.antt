use Rattle.expression_rules.specs.Ranges.{bounds_of}
use Rattle.expression_rules.proofs.scope.Context.change.Goals as goal

pub returns-in-Some : goal.returns-in-Some
returns-in-Some c = λ target value.
    let b = bounds_of c.args.self.now in
    let old = c.in_ok-old.ensures (c.in-Some.ensures b target) (c.from_type.ensures b.functions (c.kind.ensures b target)) in
    c.store.ensures target (c.in_ok-new.ensures old value)

pub returns : goal.returns
returns c = λ target value.
    let b = bounds_of c.args.self.now in
    let kind = c.in-Some-kind.ensures b target in
    c.changed.ensures b target kind (rw c.into_inner.ensures (c.in_ok-right.ensures b kind value))
