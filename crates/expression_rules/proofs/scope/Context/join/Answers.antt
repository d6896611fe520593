use Rattle.core_tree.proofs.Views.{expression_views}
use Rattle.expression_rules.specs.Ranges.{bounds_of}
use Rattle.expression_rules.proofs.scope.Context.join.Goals as goal

pub returns : goal.returns
returns c = λ left right.
    let b = bounds_of c.args.self.now in
    c.known.ensures (simp expression_views (tt, (c.in_ok-left.ensures b tt left, (c.in_ok-right.ensures b tt right, tt)))) tt
