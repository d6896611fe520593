use Rattle.core_tree.proofs.StatementViews.{statement_views}
use Rattle.core_tree.specs.Tree.{expression_of}
use Rattle.type_rules.proofs.Scopes.{added-below, added-in_range, keeps-in_range, kept-expression}
use Rattle.type_rules.proofs.statements.definition.Goals as goal

pub returns-clause-in_range : goal.returns-clause-in_range
returns-clause-in_range c = λ r.
    let named = c.kind_named-kind.new.self in
    let added = c.new_local.new.self in
    let after = c.local_value.new.scope in
    let kept = c.kind_named-kind.ensures.kept in
    let local = c.in_ok-number.ensures in
    let there = added-in_range named added c.kind_named-kind.result local.catalog local.script local.added (rw kept.catalog c.kind_named-kind.ensures.in_range) (keeps-in_range c.args.scope.now named kept r) in
    let value = kept-expression added after c.in_ok-value.ensures.kept (expression_of c.in_ok-value.value) (c.in_ok-value.ensures.in_range there (rw (local.catalog, kept.catalog) c.kind_named-kind.ensures.in_range)) in
    let below = added-below named added c.kind_named-kind.result c.in_ok-number.number local.added local.number in
    simp statement_views (rw c.in_ok-value.ensures.kept.locals below, (value, tt))
