-- What is written of a file.
use Rattle.std.specs.Prelude.{◌≡◌, ℕ, List, ◌++◌, length}
use Rattle.std.specs.List.{AllByRecursion}
use Rattle.pex_values.specs.Plain.{PlainLines}
use Rattle.pex_values.specs.Shape.{IsShapedLines}
use Rattle.code_emit.specs.Strings.{Table}

-- strings were added behind those that were there
pub record GoesOn (old new : Table) : Type 0 where
  pub home : new.home ≡ old.home
  pub added : List (List ℕ)
  pub strings : new.strings ≡ old.strings ++ added

-- debug entries were added behind those that were there, of which this holds
pub record Notes (strings : ℕ) (old new : List PlainLines) (Are : List PlainLines → Type 0) : Type 0 where
  pub added : List PlainLines
  pub entries : new ≡ old ++ added
  pub shaped : AllByRecursion (IsShapedLines strings) added
  pub are : Are added
