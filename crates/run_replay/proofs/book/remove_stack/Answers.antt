use Rattle.std.proofs.Common.{length, ap, arith}
use Rattle.run_replay.proofs.WaiterLemmas.{removed_here, nothing_here}
use Rattle.run_replay.proofs.book.remove_stack.Goals as goal

pub returns-then-at-len : goal.returns-then-at-len
returns-then-at-len c = removed_here c.args.stack c.args.waiters.now.items c.as_slice.result.now c.remove.new.self.items c.place_among-at.result c.as_slice.ensures.value c.place_among-at.ensures.place (omega (arith, c.len.ensures, c.if-at-len.true, c.as_slice.ensures.len, ap length c.as_slice.ensures.value)) c.remove.ensures.items

pub returns-else-at-len : goal.returns-else-at-len
returns-else-at-len c = nothing_here c.args.stack c.args.waiters.now.items c.as_slice.result.now c.place_among-at.result c.as_slice.ensures.value c.place_among-at.ensures.place (omega (arith, c.len.ensures, c.if-at-len.false, c.as_slice.ensures.len, ap length c.as_slice.ensures.value))
