-- What a call of a sink does to the bytes that were written, where they are told.
use Rattle.std.specs.Prelude.{◌≡◌, ℕ, List, ◌++◌, take, Option, Result, Ok, Err}
use Rattle.std.specs.Option.{option_map}
use Rattle.papy_io.specs.declared.fault.IoFault.{IoFault}
use Rattle.papy_io.specs.declared.fault.IoFault.TheVariants.{Failed, OutOfMemory}

-- told bytes grow by these
abbrev pub Appended : List ℕ → Option (List ℕ) → Option (List ℕ) → Type 0
Appended bytes before now = now ≡ option_map (λ written. written ++ bytes) before

-- `write` appends all bytes, a failed one the first of them, and one that finds no memory none
abbrev pub SinkWrites : {T : Type 0} → Result T IoFault → List ℕ → Option (List ℕ) → Option (List ℕ) → Type 0
SinkWrites (Ok _) bytes before now = Appended bytes before now
SinkWrites (Err Failed) bytes before now = (n : ℕ) × Appended (take n bytes) before now
SinkWrites (Err OutOfMemory) bytes before now = now ≡ before

-- all of the text was written, or, after an error, the first bytes of it, as many as there may be
abbrev pub WritesText : {T : Type 0} → List ℕ → Result T IoFault → Option (List ℕ) → Option (List ℕ) → Type 0
WritesText text (Ok _) before now = Appended text before now
WritesText text (Err _) before now = (n : ℕ) × Appended (take n text) before now

-- some bytes were appended, or none
pub record AppendsSome (before now : Option (List ℕ)) : Type 0 where
  pub bytes : List ℕ
  pub appended : Appended bytes before now
