-- Which stacks a turn wakes.
use Rattle.std.specs.Prelude.{ℕ, Bool, false, List, Option, Some, None, nat_le, position, slice_set}

-- this sleep ends at this turn or before
abbrev pub is_due : ℕ → Option ℕ → Bool
is_due turn None = false
is_due turn (Some until) = nat_le until turn

abbrev pub without : List (Option ℕ) → Option ℕ → List (Option ℕ)
without turns None = turns
without turns (Some stack) = slice_set turns stack None

-- the sleeps without that of the least stack that is due
abbrev pub without_first_due : ℕ → List (Option ℕ) → List (Option ℕ)
without_first_due turn turns = without turns (position (is_due turn) turns)
