use Rattle.papy_base.proofs.LinkLemmas.{AreLinked-more}
use Rattle.papy_base.proofs.descent.Links.of.Goals as goal

pub loop-object-preserved : goal.loop-object-preserved
loop-object-preserved c =
    AreLinked-more c.args.parents.now c.loop-object.object c.parent_number-parent.result c.index.result.now c.loop-object.last.items c.loop-object.before.items c.loop-object-test.true c.loop-object.invariant c.parent_number-parent.ensures c.index.ensures
