use Rattle.std.proofs.Common.{◌≡◌, vec_len}
use Rattle.type_scope.proofs.locals.Locals.close.Given as goal

abbrev pub invariant-names : goal.invariant-names
invariant-names l = l.self.kinds ≡ l.fn.self.kinds

abbrev pub decreases-names : goal.decreases-names
decreases-names l = vec_len l.self.seen
