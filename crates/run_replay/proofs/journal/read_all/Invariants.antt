use Rattle.std.proofs.Common.{length}
use Rattle.run_replay.proofs.JournalLemmas.{ReadSoFar}
use Rattle.run_replay.proofs.journal.read_all.Given as goal

abbrev pub invariant-loop-rest : goal.invariant-loop-rest
invariant-loop-rest l = ReadSoFar l.bytes l.book l.number l.rest

abbrev pub decreases-loop-rest : goal.decreases-loop-rest
decreases-loop-rest l = length l.rest
