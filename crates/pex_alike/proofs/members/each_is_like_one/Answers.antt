use Rattle.std.proofs.Common.{arith, refl, rules}
use Rattle.std.specs.List.{Any}
use Rattle.pex_alike.proofs.Lists.{all_no, all_more}
use Rattle.pex_alike.proofs.members.each_is_like_one.Goals as goal

pub returns-then-not-is_like_one : goal.returns-then-not-is_like_one
returns-then-not-is_like_one g c =
    all_no (λ y. Any (λ x. g.T.Member.IsLike c.args.these.now c.args.those.now (g.T.Member.plain x) (g.T.Member.plain y)) c.args.xs.now) c.args.ys.now c.loop-at.at c.index-ys-at.result c.is_like_one.result c.loop-at-test.true c.index-ys-at.is c.is_like_one.ensures (search rules)

pub loop-at-preserved : goal.loop-at-preserved
loop-at-preserved g c =
    all_more (λ y. Any (λ x. g.T.Member.IsLike c.args.these.now c.args.those.now (g.T.Member.plain x) (g.T.Member.plain y)) c.args.xs.now) c.args.ys.now c.loop-at.at c.index-ys-at.result c.loop-at-test.true c.index-ys-at.is (c.is_like_one.ensures.0 (search rules)) c.loop-at.invariant

pub returns : goal.returns
returns g c = (λ t k d lt. c.loop-at.invariant k d (omega arith), λ all. refl)
