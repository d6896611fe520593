-- What `check` writes.
use Rattle.std.specs.Prelude.{ℕ, List, [], ◌∷◌, ◌++◌, codes}
use Rattle.std.specs.Fmt.{decimal}

-- the file was accepted, with so many bytes
abbrev pub accepted_line : ℕ → List ℕ
accepted_line size = codes "ok " ++ (decimal size ++ 10 ∷ [])
