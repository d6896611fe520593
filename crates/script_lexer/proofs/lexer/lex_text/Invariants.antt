use Rattle.std.proofs.Common.{length}
use Rattle.script_lexer.proofs.ReadingLemmas.{ReadSoFar}
use Rattle.script_lexer.proofs.lexer.lex_text.Given as goal

abbrev pub invariant-loop-rest : goal.invariant-loop-rest
invariant-loop-rest l = ReadSoFar l.start l.text l.progress l.rest

abbrev pub decreases-loop-rest : goal.decreases-loop-rest
decreases-loop-rest l = length l.rest
