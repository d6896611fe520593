-- What the bits of a property ask for: 1 is read, 2 is write, 4 is auto.
use Rattle.std.specs.Prelude.{ℕ, Bool, not, ◌==◌, bit_and}

-- an auto property keeps its value in a variable
abbrev pub has_variable : ℕ → Bool
has_variable bits = not (bit_and bits 4 == 0)

-- a readable property that isn't auto has a function that reads it
abbrev pub has_read : ℕ → Bool
has_read bits = bit_and bits 5 == 1

-- a writable property that isn't auto has a function that writes it
abbrev pub has_write : ℕ → Bool
has_write bits = bit_and bits 6 == 2
