use Rattle.std.proofs.Common.{ℕ, ◌<◌, get_or}
use Rattle.std.specs.List.{Any}
use Rattle.pex_alike.proofs.members.each_has_like.Given as goal

abbrev pub invariant-loop-at : goal.invariant-loop-at
invariant-loop-at g l = (k : ℕ) (d : g.row.T.Denot) → k < l.at → Any (λ (y : g.row.T.Denot). g.T.Member.IsLike l.these l.those (g.T.Member.plain (get_or l.xs k d)) (g.T.Member.plain y)) l.ys
