use Rattle.std.proofs.Common.{subst}
use Rattle.core_tree.proofs.StatementViews.{statement_views}
use Rattle.expression_rules.specs.Ranges.{TargetInRange}
use Rattle.expression_rules.proofs.assignment.stored.Goals as goal

pub returns-in-Local : goal.returns-in-Local
returns-in-Local c = λ b target value.
    let here = subst (TargetInRange b) c.in-Local.is target in
    simp statement_views (here.0, (value, tt))

pub returns-in-Field : goal.returns-in-Field
returns-in-Field c = λ b target value.
    let here = subst (TargetInRange b) c.in-Field.is target in
    simp statement_views (here.0, (value, tt))

pub returns-in-State : goal.returns-in-State
returns-in-State c = λ b target value. simp statement_views (tt, (value, tt))

pub returns-in-Property : goal.returns-in-Property
returns-in-Property c = λ b target value.
    let here = subst (TargetInRange b) c.in-Property.is target in
    simp statement_views (tt, (rw c.into_inner.ensures here.0, (value, tt)))

pub returns-in-Element : goal.returns-in-Element
returns-in-Element c = λ b target value.
    let here = subst (TargetInRange b) c.in-Element.is target in
    simp statement_views (tt, (rw c.into_inner-array.ensures here.0, (rw c.into_inner-in-Element.ensures here.1, (value, tt))))

pub returns-in-Broken : goal.returns-in-Broken
returns-in-Broken c = λ b target value. simp statement_views (tt, (value, tt))
