use Rattle.core_tree.proofs.Views.{expression_views}
use Rattle.expression_rules.proofs.scope.Context.read_property.Goals as goal

pub returns-in-Some-own_variable : goal.returns-in-Some-own_variable
returns-in-Some-own_variable c = λ of. c.known.ensures (simp expression_views c.in-Some-own_variable.ensures) c.in-Some.ensures

pub returns : goal.returns
returns c = λ of. c.known-2.ensures (simp expression_views (c.in-Some.ensures, (of, tt))) c.in-Some.ensures
