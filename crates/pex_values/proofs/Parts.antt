-- Lists of parts that grow, and lists of what a view shows.
use Rattle.std.proofs.Common.{◌≡◌, ℕ, ◌+◌, List, [], ◌∷◌, ◌++◌, length, map, refl, ap, arith}
use Rattle.std.specs.List.{flat_map, AllByRecursion}
use Rattle.std.proofs.lemmas.List.{length-append}

pub each_added : {X : Type 0} (P : X → Type 0) (xs : List X) (x : X) → AllByRecursion P xs → P x → AllByRecursion P (xs ++ x ∷ [])
each_added P [] x each here = (here, tt)
each_added P (y ∷ ys) x each here = (each.0, each_added P ys x each.1 here)

-- the bytes of one more item
pub len_added : {X : Type 0} (f : X → List ℕ) (xs : List X) (x : X) → length (flat_map f (xs ++ x ∷ [])) ≡ length (flat_map f xs) + length (f x)
len_added f [] x = let e = length-append (f x) [] in omega arith
len_added f (y ∷ ys) x =
    let e = len_added f ys x in
    let a = length-append (f y) (flat_map f (ys ++ x ∷ [])) in
    let b = length-append (f y) (flat_map f ys) in
    omega arith

pub flat_map-map : {X Y : Type 0} (f : Y → List ℕ) (view : X → Y) (xs : List X) → flat_map f (map view xs) ≡ flat_map (λ x. f (view x)) xs
flat_map-map f view [] = refl
flat_map-map f view (x ∷ xs) = ap (λ (r : List ℕ). f (view x) ++ r) (flat_map-map f view xs)

pub each_view : {X Y : Type 0} (P : Y → Type 0) (view : X → Y) (xs : List X) → AllByRecursion (λ x. P (view x)) xs → AllByRecursion P (map view xs)
each_view P view [] each = tt
each_view P view (x ∷ xs) each = (each.0, each_view P view xs each.1)
