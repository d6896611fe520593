use Rattle.script_linker.proofs.FoundLemmas.{AreAmong-item, FindsAmong-nothing, FindsAmong-then}
use Rattle.script_linker.proofs.rules.judge_names.Goals as goal

pub loop-item-init : goal.loop-item-init
loop-item-init g c = FindsAmong-nothing _ _

pub loop-item-preserved : goal.loop-item-preserved
loop-item-preserved g c =
    let one = AreAmong-item g.T.Declared.line_of c.args.items.now c.loop-item.item-index c.item-item.result c.loop-item-test.true c.item-item.is in
    FindsAmong-then one c.loop-item.invariant (rw c.line.ensures at c.note_if.ensures.among)
