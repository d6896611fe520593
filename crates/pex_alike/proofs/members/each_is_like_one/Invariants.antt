use Rattle.std.proofs.Common.{ℕ, ◌<◌, get_or}
use Rattle.std.specs.List.{Any}
use Rattle.pex_alike.proofs.members.each_is_like_one.Given as goal

abbrev pub invariant-loop-at : goal.invariant-loop-at
invariant-loop-at g l = (k : ℕ) (d : g.row.T.Denot) → k < l.at → Any (λ (x : g.row.T.Denot). g.T.Member.IsLike l.these l.those (g.T.Member.plain x) (g.T.Member.plain (get_or l.ys k d))) l.xs
