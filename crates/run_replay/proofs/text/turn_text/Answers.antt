use Rattle.std.proofs.Common.{◌∙◌, rules}
use Rattle.run_replay.specs.Lines.{Turn, Moved}
use Rattle.run_replay.proofs.TextLemmas.{moved_more, first_line, all_lines}
use Rattle.run_replay.proofs.text.turn_text.Goals as goal

pub loop-moved-init : goal.loop-moved-init
loop-moved-init c = first_line c.args.turn c.in_ok-text.text.items (search rules)

pub loop-moved-preserved : goal.loop-moved-preserved
loop-moved-preserved c = moved_more c.args.turn c.args.moves.now.items c.deref-moved-items.result.now c.loop-moved.moved-index c.loop-moved.text.items c.as_bytes-in-loop-moved.result.now c.extend_from_slice.new.self.items _ c.deref-moved-items.ensures.value c.loop-moved-test.true (c.as_bytes-in-loop-moved.ensures.value ∙ c.in_ok-line-2.ensures) c.loop-moved.invariant c.in_ok-extend_from_slice.ensures.items

pub returns : goal.returns
returns c = all_lines Moved (Turn c.args.turn) c.args.moves.now.items c.deref-moved-items.result.now c.loop-moved.moved-index c.loop-moved.text.items c.deref-moved-items.ensures.value c.loop-moved-test.false c.loop-moved.invariant
