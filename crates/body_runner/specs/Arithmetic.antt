-- What the opcodes on numbers and texts give.
use Rattle.std.specs.Prelude.{ℕ, ◌+◌, nat_lt, ℤ, pos, int_div, int_rem, List, ◌++◌, length, Option, Some, None, if◌then◌else◌}
use Rattle.std.specs.Int.{w32, int_wrap}
use Rattle.std.specs.Ordering.{int_eq}

-- idiv; none where the divisor is 0
abbrev pub quotient : ℤ → ℤ → Option ℤ
quotient left right = if int_eq right (pos 0) then None else Some (int_wrap w32 (int_div left right))

-- imod; none where the divisor is 0
abbrev pub remainder : ℤ → ℤ → Option ℤ
remainder left right = if int_eq right (pos 0) then None else Some (int_wrap w32 (int_rem left right))

-- strcat; none where the two have more than 1,024 bytes together
abbrev pub joined : List ℕ → List ℕ → Option (List ℕ)
joined left right = if nat_lt 1024 (length left + length right) then None else Some (left ++ right)
