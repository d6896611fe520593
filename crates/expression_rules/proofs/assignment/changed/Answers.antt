use Rattle.std.proofs.Common.{subst}
use Rattle.core_tree.proofs.StatementViews.{statement_views}
use Rattle.expression_rules.specs.Ranges.{TargetInRange}
use Rattle.expression_rules.proofs.assignment.changed.Goals as goal

pub returns-in-Property : goal.returns-in-Property
returns-in-Property c = λ b target kind right.
    let here = subst (TargetInRange b) c.in-Property.is target in
    simp statement_views (rw c.into_inner.ensures here.0, kind, right)

pub returns-in-Element : goal.returns-in-Element
returns-in-Element c = λ b target kind right.
    let here = subst (TargetInRange b) c.in-Element.is target in
    simp statement_views (rw c.into_inner-array.ensures here.0, rw c.into_inner-at.ensures here.1, kind, right)

pub returns-in_default : goal.returns-in_default
returns-in_default c = λ b target kind right. simp statement_views (tt, (right, tt))
