-- What turns write into a report: whole lines.
use Rattle.std.specs.Prelude.{◌≡◌, ◌⊎◌, ℕ, List, [], ◌∷◌, ◌++◌, Option, Result, Ok, Err}
use Rattle.papy_io.specs.Sink.{Appended, AppendsSome}

-- no bytes, or bytes that end in a line feed
abbrev pub IsLines : List ℕ → Type 0
IsLines bytes = (bytes ≡ []) ⊎ ((front : List ℕ) × (bytes ≡ front ++ 10 ∷ []))

-- whole lines were appended, or nothing
pub record AppendsLines (before now : Option (List ℕ)) : Type 0 where
  pub bytes : List ℕ
  pub lines : IsLines bytes
  pub appended : Appended bytes before now

-- what an answer has written: whole lines, of which one that failed may leave the last unfinished
abbrev pub WritesLines : {T E : Type 0} → Result T E → Option (List ℕ) → Option (List ℕ) → Type 0
WritesLines (Ok value) before now = AppendsLines before now
WritesLines (Err fault) before now = AppendsSome before now
