-- What the lines of a journal count and name.
use Rattle.std.specs.Prelude.{ℕ, suc, ◌≡◌, List, [], ◌∷◌}
use Rattle.run_replay.specs.Lines.{JournalLine, Heading, Instance, Turn, End, Moved, LineFits, journal_text}

abbrev pub AllFit : List JournalLine → Type 0
AllFit [] = Unit {0}
AllFit (line ∷ lines) = LineFits line × AllFit lines

-- the bytes are the text of these lines
pub record AreLines (bytes : List ℕ) (lines : List JournalLine) : Type 0 where
  pub text : bytes ≡ journal_text lines
  pub fit : AllFit lines

-- how many turns begin
abbrev pub turns_in : List JournalLine → ℕ
turns_in [] = 0
turns_in (Heading ∷ lines) = turns_in lines
turns_in (Instance name ∷ lines) = turns_in lines
turns_in (Turn turn ∷ lines) = suc (turns_in lines)
turns_in (End turns ∷ lines) = turns_in lines
turns_in (Moved move ∷ lines) = turns_in lines

-- the names of the instances, in order
abbrev pub names_in : List JournalLine → List (List ℕ)
names_in [] = []
names_in (Heading ∷ lines) = names_in lines
names_in (Instance name ∷ lines) = name ∷ names_in lines
names_in (Turn turn ∷ lines) = names_in lines
names_in (End turns ∷ lines) = names_in lines
names_in (Moved move ∷ lines) = names_in lines
