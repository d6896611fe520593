use Rattle.std.proofs.Common.{◌≡◌, ◌∷◌, take, map}
use Rattle.run_replay.specs.Lines.{Heading, Instance, journal_text}
use Rattle.run_replay.proofs.text.heading.Given as goal

-- the heading, and the names so far
abbrev pub invariant-loop-name : goal.invariant-loop-name
invariant-loop-name l = l.text.items ≡ journal_text (Heading ∷ map Instance (take l.name-index l.names.items))
