use Rattle.core_tree.proofs.Views.{expression_views}
use Rattle.expression_rules.proofs.scope.Context.cast.Goals as goal

pub returns : goal.returns
returns c = λ of. c.known.ensures (simp expression_views (c.in-Some.ensures.in_range, (of.core, tt))) c.in-Some.ensures.in_range
