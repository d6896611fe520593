use Rattle.std.proofs.Common.{◌≡◌, length, subst, arith}
use Rattle.papy_base.proofs.ReachLemmas.{AreNumbered, AreReached-numbered}
use Rattle.papy_base.proofs.descent.number.Goals as goal

pub returns : goal.returns
returns c = λ is.
    let all : c.loop-rank.rank ≡ length c.args.order.now = omega arith in
    AreReached-numbered c.args.parents.now c.args.order.now c.loop-rank.spans c.loop-rank.invariant.count (subst (AreNumbered c.args.order.now c.loop-rank.spans) all (c.loop-rank.invariant.numbered is))
