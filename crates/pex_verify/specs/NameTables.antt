-- The table of names of a set: the empty name, and the strings of the prelude and of the files, as they come.
use Rattle.std.specs.Prelude.{ℕ, List, [], ◌∷◌, fold}
use Rattle.pex_meaning.specs.Prelude.{strings}
use Rattle.pex_set.specs.Names.{with_names}
use Rattle.pex_values.specs.declared.values.Pex.{Pex}

-- the table with the strings of these files in it
abbrev pub with_files : List (List ℕ) → List Pex → List (List ℕ)
with_files names files = fold (λ table file. with_names table file.strings.items) names files

abbrev pub names_in : List Pex → List (List ℕ)
names_in files = with_files (with_names ([] ∷ []) strings) files
