use Rattle.core_tree.proofs.Views.{expression_views}
use Rattle.expression_rules.proofs.scope.Context.own_instance.Goals as goal

pub returns : goal.returns
returns c = rw c.in_ok-new.ensures.ok (simp expression_views tt)
