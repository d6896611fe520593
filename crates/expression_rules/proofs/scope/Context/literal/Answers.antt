use Rattle.core_tree.proofs.Views.{expression_views}
use Rattle.expression_rules.proofs.scope.Context.literal.Goals as goal

pub returns : goal.returns
returns c = λ value kind. c.typed.ensures (simp expression_views value) kind
