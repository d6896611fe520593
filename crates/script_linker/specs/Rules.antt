-- The numbers of the rules of a set, and when a thing of a set breaks one.
use Rattle.std.specs.Prelude.{ℕ, ◌<◌, ◌≤◌, Option, Some, None}
use Rattle.script_linker.specs.declared.fault.LinkRule.{LinkRule}
use Rattle.script_linker.specs.declared.fault.LinkRule.TheVariants as rules

abbrev pub rule_number : LinkRule → ℕ
rule_number rules.DuplicateScript = 1
rule_number rules.PreludeName = 2
rule_number rules.UnknownParent = 3
rule_number rules.ExtendsCycle = 4
rule_number rules.UnknownImport = 5
rule_number rules.DuplicateMember = 6
rule_number rules.TwoAutoStates = 7
rule_number rules.StateFunctionAlone = 8
rule_number rules.SignatureDiffers = 9
rule_number rules.PropertyInParent = 10
rule_number rules.DefaultOrder = 11
rule_number rules.Limit = 12

-- a number was found, and it is below the limit
abbrev pub IsBelow : ℕ → Option ℕ → Type 0
IsBelow limit None = ⊥
IsBelow limit (Some number) = number < limit

-- the parent of a script that names one can't be this: none, or a library
abbrev pub IsNoParent : Option ℕ → Type 0
IsNoParent None = Unit {0}
IsNoParent (Some parent) = parent < 3

-- the parent of a script that names one can be this: a script of the set that is no library
abbrev pub IsParent : Option ℕ → Type 0
IsParent None = ⊥
IsParent (Some parent) = 3 ≤ parent
