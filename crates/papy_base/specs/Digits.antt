-- Which numbers decimal digits write in listings and journals. Numbers that scripts convert are those of `Decimal`.
use Rattle.std.specs.Prelude.{ℕ, ◌^◌, Bool, List, length, Option, Some, None, ◌==◌, ◌&&◌, nat_lt, if◌then◌else◌, slice_index}
use Rattle.std.specs.Char.{is_ascii_digit}
use Rattle.std.specs.List.{list_all}
use Rattle.std.specs.Str.Parse.{digits_value}

-- the number of decimal digits, where it has at most 64 bits
abbrev pub decimal_number : List ℕ → Option ℕ
decimal_number digits = if list_all is_ascii_digit digits && nat_lt (digits_value 10 digits) (2 ^ 64) then Some (digits_value 10 digits) else None

-- a zero stands before another digit
abbrev pub has_leading_zero : List ℕ → Bool
has_leading_zero digits = nat_lt 1 (length digits) && (slice_index digits 0 == 48)
