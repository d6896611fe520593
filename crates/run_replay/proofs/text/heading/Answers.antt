use Rattle.run_replay.specs.Lines.{Heading, Instance}
use Rattle.run_replay.proofs.TextLemmas.{named_more, all_lines}
use Rattle.run_replay.proofs.text.heading.Goals as goal

pub loop-name-preserved : goal.loop-name-preserved
loop-name-preserved c = named_more c.args.names.now.items c.deref-name-items.result.now c.loop-name.name-index c.loop-name.text.items c.extend_from_slice.new.self.items c.extend_from_slice-in-loop-name.new.self.items c.push.new.self.items c.name-item.result c.as_bytes.result.now c.deref-name-items.ensures.value c.loop-name-test.true c.name-item.is c.as_bytes.ensures c.loop-name.invariant c.in_ok-extend_from_slice.ensures.items c.in_ok-extend_from_slice-2.ensures.items c.in_ok-push.ensures.items

pub returns : goal.returns
returns c = all_lines Instance Heading c.args.names.now.items c.deref-name-items.result.now c.loop-name.name-index c.loop-name.text.items c.deref-name-items.ensures.value c.loop-name-test.false c.loop-name.invariant
