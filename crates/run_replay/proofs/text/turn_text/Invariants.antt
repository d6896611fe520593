use Rattle.std.proofs.Common.{◌≡◌, ◌∷◌, take, map}
use Rattle.run_replay.specs.Lines.{Turn, Moved, journal_text}
use Rattle.run_replay.proofs.text.turn_text.Given as goal

-- the turn, and the moves so far
abbrev pub invariant-loop-moved : goal.invariant-loop-moved
invariant-loop-moved l = l.text.items ≡ journal_text (Turn l.fn.turn ∷ map Moved (take l.moved-index l.moves.items))
