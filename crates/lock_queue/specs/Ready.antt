-- A set of numbers that is kept as bits of words of 64 bits.
use Rattle.std.specs.Prelude.{ℕ, ◌/◌, ◌%◌, ◌==◌, Bool, List, slice_index}
use Rattle.std.specs.Int.{bit_at}

abbrev pub is_member : List ℕ → ℕ → Bool
is_member words number = bit_at (slice_index words (number / 64)) (number % 64) == 1
