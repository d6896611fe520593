use Rattle.std.proofs.Common.{◌≡◌, ◌+◌, ℕ, List, ◌∷◌, map, All, sum_by, take}
use Rattle.pex_verify.specs.Sources.{object_count, objects_in, objects_of, AreNamed, HaveParts, IsNamed}
use Rattle.pex_verify.proofs.sources.all_sources.Given as goal

abbrev pub invariant-loop-number : goal.invariant-loop-number
invariant-loop-number l =
    (object_count l.sources.items ≡ objects_in l.prelude + sum_by objects_of (take l.number l.files)) × ((table : List (List ℕ)) → IsNamed table l.prelude → AreNamed table l.files l.strings → All (IsNamed table) l.sources.items)
    × (map (λ source. source.pex.now) l.sources.items ≡ l.prelude.pex.now ∷ take l.number l.files)
    × (HaveParts l.prelude.pex.now → All HaveParts l.files → All (λ source. HaveParts source.pex.now) l.sources.items)
