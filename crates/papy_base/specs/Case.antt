-- Names and texts are compared with the case of ASCII letters ignored.
use Rattle.std.specs.Prelude.{◌≡◌, ℕ, List, map}
use Rattle.std.specs.Char.{to_ascii_lowercase}

-- the bytes with A to Z read as a to z
abbrev pub folded : List ℕ → List ℕ
folded bytes = map to_ascii_lowercase bytes

-- the two byte lists are the same word
abbrev pub SameIgnoringCase : List ℕ → List ℕ → Type 0
SameIgnoringCase a b = folded a ≡ folded b
