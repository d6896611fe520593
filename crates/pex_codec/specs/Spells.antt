-- Which bytes spell a value.
use Rattle.std.specs.Prelude.{◌≡◌, ℕ, List}
use Rattle.pex_values.specs.Fit.{Fits}
use Rattle.pex_values.specs.Plain.{PlainPex}
use Rattle.pex_values.specs.Shape.{IsWellShaped}
use Rattle.pex_values.specs.Spelling.{spelling}

-- the value is well shaped and fits, and the bytes are its fields in a row
pub record Spells (v : PlainPex) (bytes : List ℕ) : Type 0 where
  pub shaped : IsWellShaped v
  pub fits : Fits v
  pub spelled : bytes ≡ spelling v
