-- The list of a set's objects as it grows.
use Rattle.std.proofs.Common.{ℕ, List, [], ◌∷◌, ◌++◌, map, refl, sym, subst}
use Rattle.std.proofs.lemmas.List.{append_assoc, append-nil}
use Rattle.pex_set.specs.Objects.{head_of}
use Rattle.pex_set.specs.declared.objects.Head.{Head}
use Rattle.pex_values.specs.declared.values.PexObject.{PexObject}
use Rattle.pex_verify.specs.declared.sources.SetFile.{SetFile}
use Rattle.pex_verify.specs.Heads.{Placed, placed, IsNumbered, AreNumbered}
use Rattle.pex_verify.proofs.Pairs.{Paired-push}

pub AreNumbered-file : (source : SetFile) (file : ℕ) (objects : List PexObject) (before : List Placed) (heads : List Head) → AreNumbered before heads
    → AreNumbered (before ++ map (placed source) objects) (heads ++ map (head_of source.names.now file) objects)
AreNumbered-file source file [] before heads old =
    subst (λ (l : List Placed). AreNumbered l (heads ++ [])) (sym (append-nil before))
    (subst (λ (l : List Head). AreNumbered before l) (sym (append-nil heads)) old)
AreNumbered-file source file (object ∷ objects) before heads old =
    let o = placed source object in
    let head = head_of source.names.now file object in
    let here : IsNumbered o head = record { name = refl; parent = refl } in
    let step = Paired-push Placed Head (λ n p h. IsNumbered p h) before heads o head old here in
    let rest = AreNumbered-file source file objects (before ++ o ∷ []) (heads ++ head ∷ []) step in
    subst (λ (l : List Placed). AreNumbered l (heads ++ head ∷ map (head_of source.names.now file) objects)) (append_assoc before (o ∷ []) (map (placed source) objects))
    (subst (λ (l : List Head). AreNumbered ((before ++ o ∷ []) ++ map (placed source) objects) l) (append_assoc heads (head ∷ []) (map (head_of source.names.now file) objects)) rest)
