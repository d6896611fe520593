-- What a table of names has, and the first thing of a name in a list.
use Rattle.std.specs.Prelude.{ℕ, ◌≡◌, List, Option, Some, None, min, if◌then◌else◌}
use Rattle.std.specs.List.{position}
use Rattle.std.specs.Str.{bytes_eq}
use Rattle.std.specs.HashMap.{get_by}
use Rattle.papy_base.specs.Case.{folded}
use Rattle.papy_base.specs.declared.name_table.NameTable.{NameTable}

-- the number that a table has for the name with these folded bytes
abbrev pub number_in : NameTable → List ℕ → Option ℕ
number_in table bytes = get_by (λ key. bytes_eq bytes key.items) table.numbers

-- the lesser of a number and another one, if there is one
abbrev pub least_of : ℕ → Option ℕ → ℕ
least_of number None = number
least_of number (Some other) = min number other

-- the place of the first thing whose name has these folded bytes
abbrev pub place_of : {X : Type 0} → (X → List ℕ) → List X → List ℕ → Option ℕ
place_of name_of items bytes = position (λ x. bytes_eq bytes (folded (name_of x))) items

-- the new table has the number for the name with these folded bytes, and for other names what the old one has
abbrev pub Sets : NameTable → NameTable → List ℕ → ℕ → Type 0
Sets old new name number =
    (bytes : List ℕ) → number_in new bytes ≡ (if bytes_eq name bytes then Some number else number_in old bytes)

-- the new table has for the name the least of this number and what the old table has
abbrev pub Notes : NameTable → NameTable → List ℕ → ℕ → Type 0
Notes old new name number = Sets old new (folded name) (least_of number (number_in old (folded name)))

-- the table has the place of the first thing of each name
abbrev pub IsPlaceTable : {X : Type 0} → (X → List ℕ) → List X → NameTable → Type 0
IsPlaceTable name_of items table = (bytes : List ℕ) → number_in table bytes ≡ place_of name_of items bytes
