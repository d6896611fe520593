-- When writing a listing fails, and what is written of it.
use Rattle.std.specs.Prelude.{◌≡◌, ℕ, List, [], ◌++◌, take, Option, None, Some, Result, Ok, Err}
use Rattle.papy_io.specs.Count.{HasRisen}
use Rattle.papy_io.specs.Sink.{Appended}
use Rattle.pex_values.specs.declared.debug.PexDebug.{PexDebug}
use Rattle.pex_values.specs.declared.debug.PexLines.{PexLines}
use Rattle.pex_listing.specs.declared.faults.ShowFault.{ShowFault}
use Rattle.pex_listing.specs.declared.faults.ShowFault.TheVariants.{WriteFault, OutOfMemory}

-- the count of faults rises exactly in a call that answers WriteFault
abbrev pub Shows : {T S : Type 0} → (S → ℕ) → Result T ShowFault → S → S → Type 0
Shows faults (Ok _) old new = faults new ≡ faults old
Shows faults (Err WriteFault) old new = HasRisen (faults old) (faults new)
Shows faults (Err OutOfMemory) old new = faults new ≡ faults old

-- the whole text was written, or, after a fault, the first part of it
abbrev pub WritesListing : {T : Type 0} → List ℕ → Result T ShowFault → Option (List ℕ) → Option (List ℕ) → Type 0
WritesListing text (Ok _) before now = Appended text before now
WritesListing text (Err _) before now = (n : ℕ) × Appended (take n text) before now

-- the first part of the text was written, and the rest of it is held back
pub record HoldsBack (text held : List ℕ) (before now : Option (List ℕ)) : Type 0 where
  pub front : List ℕ
  pub written : Appended front before now
  pub whole : text ≡ front ++ held

-- the text was written but for what is held back, or, after a fault, the first part of it
abbrev pub Wrote : {T : Type 0} → List ℕ → Result T ShowFault → List ℕ → Option (List ℕ) → Option (List ℕ) → Type 0
Wrote text (Ok _) held before now = HoldsBack text held before now
Wrote text (Err _) held before now = (n : ℕ) × Appended (take n text) before now

-- the same of what was held back before and the text behind it
abbrev pub Writes : {T : Type 0} → List ℕ → Result T ShowFault → List ℕ → List ℕ → Option (List ℕ) → Option (List ℕ) → Type 0
Writes text result old new before now = Wrote (old ++ text) result new before now

-- the entries of the debug information, if there is any
abbrev pub entries_of : Option PexDebug → List PexLines
entries_of None = []
entries_of (Some d) = d.functions.items
