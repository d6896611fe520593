-- What writing a whole file leaves under its name and under the others.
use Rattle.std.specs.Prelude.{◌≡◌, ◌⊎◌, ℕ, List, take, Option, None, Some, Result, Ok, Err}
use Rattle.papy_io.specs.declared.fault.IoFault.{IoFault}
use Rattle.papy_io.specs.Files.{Files, ChangesTold}

-- the name holds these bytes
abbrev pub HoldsNow : List ℕ → Option (List ℕ) → Option (List ℕ) → Type 0
HoldsNow bytes before now = now ≡ Some bytes

-- the name holds the first of these bytes, as many as there may be, or what it held, or is not held
abbrev pub MayHold : List ℕ → Option (List ℕ) → Option (List ℕ) → Type 0
MayHold bytes before now = ((n : ℕ) × (now ≡ Some (take n bytes))) ⊎ (now ≡ before) ⊎ (now ≡ None)

-- after `Ok` the name holds the bytes, and after an error it may
abbrev pub WritesFile : {T : Type 0} → List ℕ → List ℕ → Result T IoFault → Option Files → Option Files → Type 0
WritesFile name bytes (Ok _) old new = ChangesTold name (HoldsNow bytes) old new
WritesFile name bytes (Err _) old new = ChangesTold name (MayHold bytes) old new
