use Rattle.std.proofs.Common.{subst}
use Rattle.core_tree.proofs.Views.{expression_views}
use Rattle.core_tree.specs.InRange.{ResultInRange}
use Rattle.expression_rules.proofs.scope.Context.convert.Goals as goal

pub returns : goal.returns
returns c = λ b to value. rw c.in_ok-new.ensures.ok (simp expression_views (subst (ResultInRange b.functions) c.in-Some.is to, (value.core, tt)))
