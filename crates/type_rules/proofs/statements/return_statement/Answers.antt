use Rattle.core_tree.proofs.StatementViews.{statement_views}
use Rattle.core_tree.specs.Tree.{expression_of}
use Rattle.type_rules.proofs.Scopes.{keeps-in_range, kept-back}
use Rattle.type_rules.proofs.statements.return_statement.Goals as goal

pub returns-in-None-Nothing-clause-in_range : goal.returns-in-None-Nothing-clause-in_range
returns-in-None-Nothing-clause-in_range c = λ r p. simp statement_views (tt, tt)

pub returns-in-None-Value-clause-in_range : goal.returns-in-None-Value-clause-in_range
returns-in-None-Value-clause-in_range c = λ r p. simp statement_views (tt, tt)

pub returns-in_ok-value_as-in-Some-Value-clause-in_range : goal.returns-in_ok-value_as-in-Some-Value-clause-in_range
returns-in_ok-value_as-in-Some-Value-clause-in_range c = λ r p.
    let kind = rw c.in-Some-Value.is-1 at p in
    simp statement_views (tt, (c.in_ok-value_as-in-Some-Value.ensures.in_range r kind, tt))

pub returns-in_ok-any-in-Some-Nothing-clause-in_range : goal.returns-in_ok-any-in-Some-Nothing-clause-in_range
returns-in_ok-any-in-Some-Nothing-clause-in_range c = λ r p.
    let before = c.args.scope.now in
    let noted = c.fault-in-Some-Nothing.new.self in
    let kept = c.fault-in-Some-Nothing.ensures.kept in
    let core = c.in_ok-any-in-Some-Nothing.ensures.in_range (keeps-in_range before noted kept r) in
    simp statement_views (tt, (kept-back before noted kept (expression_of c.in_ok-any-in-Some-Nothing.field-0) core, tt))
