use Rattle.std.proofs.Common.{arith}
use Rattle.run_replay.proofs.SplitLemmas.{line_cut, no_cut}
use Rattle.run_replay.proofs.journal.cut_line.Goals as goal

pub returns-then-at-bytes : goal.returns-then-at-bytes
returns-then-at-bytes c = no_cut c.args.bytes.now c.len_before-at.result c.len_before-at.ensures.run (omega arith)

pub returns : goal.returns
returns c = line_cut c.args.bytes.now c.split_at.result.0.now c.split_at.result.1.now c.split_at-2.result.1.now c.len_before-at.result c.len_before-at.ensures.run (omega (arith, c.len_before-at.ensures.within, c.if-at-bytes.false)) c.split_at.ensures.front c.split_at.ensures.back c.split_at-2.ensures.back
