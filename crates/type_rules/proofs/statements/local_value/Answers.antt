use Rattle.core_tree.proofs.Views.{expression_views}
use Rattle.type_rules.proofs.statements.local_value.Goals as goal

pub returns-in_ok-default_of-in-None-clause-in_range : goal.returns-in_ok-default_of-in-None-clause-in_range
returns-in_ok-default_of-in-None-clause-in_range c = λ r k. simp expression_views c.in_ok-default_of-in-None.ensures.in_range
