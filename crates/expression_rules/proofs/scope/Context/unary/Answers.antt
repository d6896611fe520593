use Rattle.core_tree.proofs.Views.{expression_views}
use Rattle.expression_rules.specs.Ranges.{bounds_of}
use Rattle.expression_rules.proofs.scope.Context.unary.Goals as goal

pub returns-then-eq-2 : goal.returns-then-eq-2
returns-then-eq-2 c = λ of. c.known.ensures (simp expression_views (tt, (c.in_ok-truth.ensures (bounds_of c.args.self.now) tt of, tt))) tt

pub returns : goal.returns
returns c = λ of. c.known-2.ensures (simp expression_views (tt, (of.core, tt))) tt
