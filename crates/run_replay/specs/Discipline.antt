-- What the lines of a journal show of the locks. It speaks of the lines alone.
use Rattle.std.specs.Prelude.{ℕ, ◌≡◌, List, [], ◌∷◌, ◌++◌, ◌⊎◌}
use Rattle.run_replay.specs.declared.lock_move.LockMove.TheVariants as moves
use Rattle.run_replay.specs.Lines.{JournalLine, Moved}

-- the line is one of them
abbrev pub Stands : JournalLine → List JournalLine → Type 0
Stands line [] = ⊥
Stands line (other ∷ lines) = (other ≡ line) ⊎ Stands line lines

-- Between two takes of an instance stands a release of it by the first taker: nobody else holds it in the meantime.
abbrev pub OneHolder : List JournalLine → Type 0
OneHolder lines = (before between behind : List JournalLine) (j k i : ℕ)
    → lines ≡ before ++ Moved (moves.Take j i) ∷ (between ++ Moved (moves.Take k i) ∷ behind)
    → Stands (Moved (moves.Release j i)) between

-- Where one stack joins an instance and then another does, the other takes it only behind a take of the first.
abbrev pub InOrder : List JournalLine → Type 0
InOrder lines = (before between until behind : List JournalLine) (j k i : ℕ)
    → lines ≡ before ++ Moved (moves.Join j i) ∷ (between ++ Moved (moves.Join k i) ∷ (until ++ Moved (moves.Take k i) ∷ behind))
    → Stands (Moved (moves.Take j i)) between ⊎ Stands (Moved (moves.Take j i)) until

-- Between a take and any later join of the stack stands its release: it lets go of what it holds before it waits again.
abbrev pub LetsGo : List JournalLine → Type 0
LetsGo lines = (before between behind : List JournalLine) (k i j : ℕ)
    → lines ≡ before ++ Moved (moves.Take k i) ∷ (between ++ Moved (moves.Join k j) ∷ behind)
    → Stands (Moved (moves.Release k i)) between
