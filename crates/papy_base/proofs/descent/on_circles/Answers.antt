use Rattle.std.proofs.Common.{arith}
use Rattle.papy_base.proofs.CircleLemmas.{MarksCircles-from_search, AreRooted-from_search}
use Rattle.papy_base.proofs.descent.on_circles.Goals as goal

pub returns-clause-exact : goal.returns-clause-exact
returns-clause-exact c =
    λ among.
    MarksCircles-from_search c.args.parents.now c.loop-start.walks.items c.loop-start.is_above_itself.items c.loop-start.start (c.loop-start.invariant among) (omega arith)

pub returns-clause-rooted : goal.returns-clause-rooted
returns-clause-rooted c =
    λ among.
    AreRooted-from_search c.args.parents.now c.loop-start.walks.items c.loop-start.is_above_itself.items c.loop-start.start (c.loop-start.invariant among) (omega arith)
