use Rattle.papyrus_cmd.specs.Check.{accepted_line}
use Rattle.papyrus_cmd.proofs.WaitsTold.{counted_all, counted_more}
use Rattle.papyrus_cmd.proofs.waits.counted_text.Goals as goal

pub loop-instance-preserved : goal.loop-instance-preserved
loop-instance-preserved c = counted_more (accepted_line c.args.found.now.turns) c.loop-instance.text.items c.append_count.new.text.items c.args.found.now.instances.items c.deref-instance-items.result.now c.loop-instance.instance-index c.instance-item.result c.deref-instance-items.ensures.value c.loop-instance-test.true c.instance-item.is c.loop-instance.invariant c.in_ok-append_count.ensures

pub returns : goal.returns
returns c = counted_all (accepted_line c.args.found.now.turns) c.loop-instance.text.items c.args.found.now.instances.items c.deref-instance-items.result.now c.loop-instance.instance-index c.deref-instance-items.ensures.value c.loop-instance-test.false c.loop-instance.invariant
