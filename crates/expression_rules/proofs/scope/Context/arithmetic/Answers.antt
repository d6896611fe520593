use Rattle.core_tree.proofs.Views.{expression_views}
use Rattle.expression_rules.proofs.scope.Context.arithmetic.Goals as goal

pub returns-in-Some : goal.returns-in-Some
returns-in-Some c = λ left right. c.known.ensures (simp expression_views (tt, (left.core, (right.core, tt)))) tt
