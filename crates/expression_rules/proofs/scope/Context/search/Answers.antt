use Rattle.core_tree.proofs.Views.{expression_views}
use Rattle.expression_rules.proofs.scope.Context.search.Goals as goal

pub returns-then-backward : goal.returns-then-backward
returns-then-backward c = λ array value start.
    c.known.ensures (simp expression_views (tt, (array, (rw c.in_ok-value.ensures.ok value, (rw c.in_ok-start.ensures.ok start, tt))))) tt

pub returns-else-backward : goal.returns-else-backward
returns-else-backward c = λ array value start.
    c.known-else-backward.ensures (simp expression_views (tt, (array, (rw c.in_ok-value.ensures.ok value, (rw c.in_ok-start.ensures.ok start, tt))))) tt
