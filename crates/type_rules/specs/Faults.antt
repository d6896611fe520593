-- Which broken rule of a set is reported.
use Rattle.std.specs.Prelude.{ℕ, ◌+◌, ◌<◌, Option, Some, None, nat_lt, if◌then◌else◌}
use Rattle.papy_base.specs.declared.earliest.BrokenRule.{BrokenRule}
use Rattle.expression_rules.specs.declared.rule.TypeRule.{TypeRule}
use Rattle.expression_rules.specs.declared.rule.TypeRule.TheVariants.{FunctionTooLarge}
use Rattle.type_rules.specs.declared.fault.TypeFault.{TypeFault}
use Rattle.type_rules.specs.declared.fault.TypeFault.TheVariants.{Broken, OutOfMemory}

-- in a set of so many scripts a broken rule stands in a file behind the six of the prelude
abbrev pub IsFaultBelow : ℕ → TypeFault → Type 0
IsFaultBelow count (Broken file line rule) = file + 6 < count
IsFaultBelow count OutOfMemory = Unit {0}

abbrev pub HasFaultBelow : ℕ → Option TypeFault → Type 0
HasFaultBelow count (Some fault) = IsFaultBelow count fault
HasFaultBelow count None = Unit {0}

-- what was found before, and else what is found now
abbrev pub earlier : Option TypeFault → Option TypeFault → Option TypeFault
earlier (Some fault) now = Some fault
earlier None now = now

-- a rule that is broken in the file of this number
abbrev pub broken_in : ℕ → Option (BrokenRule TypeRule) → Option TypeFault
broken_in file None = None
broken_in file (Some found) = Some (Broken file found.line found.rule)

-- the same of the rule of sizes
abbrev pub too_large_in : ℕ → Option ℕ → Option TypeFault
too_large_in file None = None
too_large_in file (Some line) = Some (Broken file line FunctionTooLarge)

-- the lesser of a line that was found, where there is one, and another
abbrev pub least_line : Option ℕ → ℕ → ℕ
least_line None line = line
least_line (Some found) line = if nat_lt found line then found else line
