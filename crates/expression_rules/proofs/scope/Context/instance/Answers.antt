use Rattle.core_tree.proofs.Views.{expression_views}
use Rattle.expression_rules.proofs.scope.Context.instance.Goals as goal

pub returns : goal.returns
returns c = λ known. c.known.ensures (simp expression_views tt) known.script
