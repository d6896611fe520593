-- That a listing gives its value back.
use Rattle.std.specs.Prelude.{◌≡◌, ℕ, ◌<◌, List, Result, Ok, Err}
use Rattle.std.specs.List.{AllByRecursion}
use Rattle.pex_values.specs.declared.values.Pex.{Pex}
use Rattle.pex_values.specs.Plain.{PlainPex, plain}
use Rattle.pex_listing.specs.declared.faults.ListingFault.{ListingFault}
use Rattle.pex_listing.specs.declared.faults.ListingFault.TheVariants.{Broken, OutOfMemory}

abbrev pub AreBytes : List ℕ → Type 0
AreBytes text = AllByRecursion (λ b. b < 256) text

-- its strings hold bytes
pub record HasBytes (v : PlainPex) : Type 0 where
  pub source : AreBytes v.source
  pub user : AreBytes v.user
  pub machine : AreBytes v.machine
  pub strings : AllByRecursion AreBytes v.strings

-- this value was given, or no memory was found
abbrev pub GivesBack : PlainPex → Result Pex ListingFault → Type 0
GivesBack v (Ok w) = plain w ≡ v
GivesBack v (Err (Broken line rule)) = ⊥
GivesBack v (Err OutOfMemory) = Unit {0}
