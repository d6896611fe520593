-- Which numbers digits spell.
use Rattle.std.specs.Prelude.{ℕ, Bool, List, length, Option, Some, None, ◌&&◌, nat_lt, if◌then◌else◌}
use Rattle.std.specs.Char.{is_ascii_digit, is_digit, digit_value}
use Rattle.std.specs.List.{list_all}

-- one decimal digit or more, and nothing else
abbrev pub are_digits : List ℕ → Bool
are_digits bytes = nat_lt 0 (length bytes) && list_all is_ascii_digit bytes

abbrev pub is_hex_digit : ℕ → Bool
is_hex_digit digit = is_digit digit 16

-- the value of a hexadecimal digit of either case
abbrev pub hex_value : ℕ → Option ℕ
hex_value digit = if is_hex_digit digit then Some (digit_value digit) else None
