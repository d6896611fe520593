use Rattle.std.proofs.Common.{length}
use Rattle.script_lexer.proofs.quoted.read_items.Given as goal
use Rattle.script_lexer.proofs.TextLemmas.{ReadSoFar}

abbrev pub invariant-loop-item : goal.invariant-loop-item
invariant-loop-item l = ReadSoFar l.bytes l.meant.items l.good l.rest

abbrev pub decreases-loop-item : goal.decreases-loop-item
decreases-loop-item l = length l.rest
