use Rattle.core_tree.proofs.Views.{expression_views}
use Rattle.expression_rules.proofs.scope.Context.length.Goals as goal

pub returns : goal.returns
returns c = λ of. c.known.ensures (simp expression_views (tt, (of.core, tt))) tt
