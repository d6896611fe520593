use Rattle.core_tree.proofs.Views.{expression_views}
use Rattle.expression_rules.specs.Ranges.{bounds_of}
use Rattle.expression_rules.proofs.scope.Context.logical.Goals as goal

pub returns-then-eq : goal.returns-then-eq
returns-then-eq c = λ left right.
    let b = bounds_of c.args.self.now in
    c.known.ensures (simp expression_views (c.in_ok-left.ensures b tt left, c.in_ok-right.ensures b tt right)) tt

pub returns-else-eq : goal.returns-else-eq
returns-else-eq c = λ left right.
    let b = bounds_of c.args.self.now in
    c.known-else-eq.ensures (simp expression_views (c.in_ok-left.ensures b tt left, c.in_ok-right.ensures b tt right)) tt
