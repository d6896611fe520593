use Rattle.papy_base.proofs.ReachLemmas.{AreReached-turned}
use Rattle.papy_base.proofs.descent.reach.Goals as goal

pub loop-reached-preserved : goal.loop-reached-preserved
loop-reached-preserved c = λ forest is start.
    AreReached-turned c.args.parents.now c.args.order.now c.loop-reached.spans c.reach_parent.new.spans c.loop-reached.reached c.parent_number.result forest is c.loop-reached-test.true (c.loop-reached.invariant forest is start) c.parent_number.ensures c.reach_parent.ensures
