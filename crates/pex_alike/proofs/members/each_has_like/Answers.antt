use Rattle.std.proofs.Common.{arith, refl, rules}
use Rattle.std.specs.List.{Any}
use Rattle.pex_alike.proofs.Lists.{all_no, all_more}
use Rattle.pex_alike.proofs.members.each_has_like.Goals as goal

pub returns-then-not-has_like : goal.returns-then-not-has_like
returns-then-not-has_like g c =
    all_no (λ x. Any (λ y. g.T.Member.IsLike c.args.these.now c.args.those.now (g.T.Member.plain x) (g.T.Member.plain y)) c.args.ys.now) c.args.xs.now c.loop-at.at c.index-xs-at.result c.has_like.result c.loop-at-test.true c.index-xs-at.is c.has_like.ensures (search rules)

pub loop-at-preserved : goal.loop-at-preserved
loop-at-preserved g c =
    all_more (λ x. Any (λ y. g.T.Member.IsLike c.args.these.now c.args.those.now (g.T.Member.plain x) (g.T.Member.plain y)) c.args.ys.now) c.args.xs.now c.loop-at.at c.index-xs-at.result c.loop-at-test.true c.index-xs-at.is (c.has_like.ensures.0 (search rules)) c.loop-at.invariant

pub returns : goal.returns
returns g c = (λ t k d lt. c.loop-at.invariant k d (omega arith), λ all. refl)
