-- Which names are held.
use Rattle.std.specs.Prelude.{◌≡◌, ℕ, List, [], ◌∷◌, Some}
use Rattle.papy_io.specs.Files.{Files, told_bytes}

-- these names are held, with these bytes, one by one
abbrev pub Hold : Files → List (List ℕ) → List (List ℕ) → Type 0
Hold files [] [] = Unit {0}
Hold files [] (bytes ∷ contents) = ⊥
Hold files (name ∷ names) [] = ⊥
Hold files (name ∷ names) (bytes ∷ contents) = (told_bytes (Some files) name ≡ Some bytes) × Hold files names contents

-- the name is held
abbrev pub IsHeld : List ℕ → Files → Type 0
IsHeld name files = (bytes : List ℕ) × (told_bytes (Some files) name ≡ Some bytes)

-- each of these names is held
abbrev pub AreHeld : List (List ℕ) → Files → Type 0
AreHeld names files = (contents : List (List ℕ)) × Hold files names contents
