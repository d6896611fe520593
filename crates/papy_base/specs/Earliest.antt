-- Which of the broken rules of a file is the first, where the rules of a list have these numbers.
use Rattle.std.specs.Prelude.{◌≡◌, ◌<◌, ◌⊎◌, ℕ, List, Contains, Option, Some, None}
use Rattle.papy_base.specs.declared.earliest.BrokenRule.{BrokenRule}
use Rattle.papy_base.specs.declared.earliest.Earliest.{Earliest}

-- a rule that is broken on a line stands before another one: on an earlier line, or on the same with a lower number
abbrev pub Before : {R : Type 0} → (R → ℕ) → (line : ℕ) → R → BrokenRule R → Type 0
Before number_of line rule other =
    (line < other.line) ⊎ ((line ≡ other.line) × (number_of rule < number_of other.rule))

-- what is kept of what was found before and a further broken rule
abbrev pub IsFirst : {R : Type 0} → (R → ℕ) → Option (BrokenRule R) → ℕ → R → BrokenRule R → Type 0
IsFirst number_of None line rule kept = kept ≡ record { line = line; rule = rule }
IsFirst number_of (Some known) line rule kept =
    (Before number_of line rule known × (kept ≡ record { line = line; rule = rule })) ⊎ ((Before number_of line rule known → ⊥) × (kept ≡ known))

-- what is found stands on one of these lines, or was found before; and what was found before isn't lost
pub record FindsAmong {R : Type 0} (lines : List ℕ) (old new : Earliest R) : Type 0 where
  pub each : (found : BrokenRule R) → new.found ≡ Some found → (old.found ≡ Some found) ⊎ Contains lines found.line
  pub stays : new.found ≡ None → old.found ≡ None
