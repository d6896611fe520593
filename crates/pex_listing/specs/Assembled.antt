-- What assembling a text answers.
use Rattle.std.specs.Prelude.{◌≡◌, ℕ, nat_lt, Some, None, option_map, Result, Ok, Err, if◌then◌else◌}
use Rattle.pex_listing.specs.Breaks.{Break}
use Rattle.pex_listing.specs.declared.faults.ListingRule.{ListingRule}
use Rattle.pex_listing.specs.declared.faults.ListingFault.{ListingFault}
use Rattle.pex_listing.specs.declared.faults.ListingFault.TheVariants.{Broken, OutOfMemory}

-- the number by which a line is told
abbrev pub told_line : ℕ → ℕ
told_line line = if nat_lt line 4294967296 then line else 4294967295

abbrev pub TellsFault : Break → ListingFault → Type 0
TellsFault first (Broken line rule) = option_map {U = ℕ × ListingRule} (λ b. (told_line b.0, b.1)) first ≡ Some (line, rule)
TellsFault first OutOfMemory = Unit {0}

-- no rule is broken, or the first break is told
abbrev pub TellsBreak : {T : Type 0} → Break → Result T ListingFault → Type 0
TellsBreak first (Ok value) = first ≡ None
TellsBreak first (Err fault) = TellsFault first fault
