-- Which texts write a number, and which number they write.
use Rattle.std.specs.Prelude.{ℕ, ℤ, pos, neg_ℤ, List, drop, FitsSigned, if◌then◌else◌}
use Rattle.std.specs.Int.{w32}
use Rattle.std.specs.Str.Parse.{IsNumeral, digits_value, starts_with_minus}

-- the text behind an optional minus
abbrev pub without_minus : List ℕ → List ℕ
without_minus text = if starts_with_minus text then drop 1 text else text

-- the number of the digits, below 0 where a minus stands first
abbrev pub int_value : List ℕ → ℤ
int_value text = if starts_with_minus text then neg_ℤ (pos (digits_value 10 (without_minus text))) else pos (digits_value 10 (without_minus text))

-- the text is an optional minus and one or more decimal digits, and its number has 32 bits
abbrev pub IsInt : List ℕ → Type 0
IsInt text = IsNumeral 10 (without_minus text) × FitsSigned w32 (int_value text)
