use Rattle.core_tree.proofs.Views.{expression_views}
use Rattle.expression_rules.proofs.scope.Context.compare.Goals as goal

pub returns : goal.returns
returns c = λ left right. c.known.ensures (simp expression_views (tt, (left.core, (right.core, tt)))) tt
