-- The names that instances may have.
use Rattle.std.specs.Prelude.{ℕ, ◌==◌, ◌&&◌, ◌||◌, Bool, IsTrue, List, length, nat_lt}
use Rattle.std.specs.Char.{is_ascii_alphanumeric}
use Rattle.std.specs.List.{list_all}

-- a letter, a digit or `_`
abbrev pub is_name_byte : ℕ → Bool
is_name_byte byte = is_ascii_alphanumeric byte || (byte == 95)

-- 1 to 64 letters, digits or `_`
abbrev pub is_instance_name : List ℕ → Bool
is_instance_name name = nat_lt 0 (length name) && (nat_lt (length name) 65 && list_all is_name_byte name)

abbrev pub IsInstanceName : List ℕ → Type 0
IsInstanceName name = IsTrue (is_instance_name name)
