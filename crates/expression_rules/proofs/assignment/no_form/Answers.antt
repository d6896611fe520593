use Rattle.core_tree.proofs.Views.{expression_views}
use Rattle.core_tree.proofs.StatementViews.{statement_views}
use Rattle.expression_rules.proofs.assignment.no_form.Goals as goal

pub returns : goal.returns
returns c = λ b. simp (statement_views, expression_views) (tt, (tt, tt))
