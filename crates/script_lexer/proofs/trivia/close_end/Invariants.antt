use Rattle.std.proofs.Common.{◌≡◌, ◌-◌, drop}
use Rattle.script_lexer.specs.Pieces.{behind_close}
use Rattle.script_lexer.proofs.trivia.close_end.Given as goal

-- no close stands before
abbrev pub invariant-loop-at : goal.invariant-loop-at
invariant-loop-at l = behind_close (drop (l.at - 1) l.bytes) ≡ behind_close l.bytes
