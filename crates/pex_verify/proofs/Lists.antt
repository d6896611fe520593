-- What holds of each item of a list that one more was put behind.
use Rattle.std.proofs.Common.{◌≡◌, ℕ, ◌<◌, ◌≤◌, List, [], ◌∷◌, ◌++◌, length, map, get_or, sym, subst, ⊎_elim, length-append, arith}
use Rattle.std.specs.List.{AllByRecursion}
use Rattle.std.proofs.lemmas.Bool.{cases_lt}
use Rattle.std.proofs.lemmas.List.{get_or_append_left}
use Rattle.std.proofs.Math.Seq.{get_or-append_seam}

-- a fact of each item and its place
pub each_pushed : {X : Type 0} (P : ℕ → X → Type 0) (xs : List X) (y : X) → ((k : ℕ) (d : X) → k < length xs → P k (get_or xs k d)) → P (length xs) y
    → (k : ℕ) (d : X) → k < length (xs ++ y ∷ []) → P k (get_or (xs ++ y ∷ []) k d)
each_pushed {X} P xs y below here k d h =
    let long = length-append xs (y ∷ []) in
    ⊎_elim
    (λ (l : k < length xs). subst (λ (x : X). P k x) (sym (get_or_append_left xs (y ∷ []) d k l)) (below k d l))
    (λ (g : length xs ≤ k).
    let same : length xs ≡ k = omega arith in
    subst (λ (n : ℕ). P n (get_or (xs ++ y ∷ []) n d)) same (subst (λ (x : X). P (length xs) x) (sym (get_or-append_seam xs y [] d)) here))
    (cases_lt k (length xs))

-- the same of a list that is said to be so
pub each_grown : {X : Type 0} (P : ℕ → X → Type 0) (xs ys : List X) (y : X) → ys ≡ xs ++ y ∷ [] → ((k : ℕ) (d : X) → k < length xs → P k (get_or xs k d)) → P (length xs) y
    → (k : ℕ) (d : X) → k < length ys → P k (get_or ys k d)
each_grown {X} P xs ys y same below here =
    subst (λ (zs : List X). (k : ℕ) (d : X) → k < length zs → P k (get_or zs k d)) (sym same) (each_pushed P xs y below here)

-- a fact of each item
pub all_grown : {X : Type 0} (P : X → Type 0) (xs ys : List X) (y : X) → ys ≡ xs ++ y ∷ [] → ((k : ℕ) (d : X) → k < length xs → P (get_or xs k d)) → P y
    → (k : ℕ) (d : X) → k < length ys → P (get_or ys k d)
all_grown P xs ys y same all here = each_grown (λ k x. P x) xs ys y same all here

-- a fact of what each item is mapped to
pub mapped_grown : {X Y : Type 0} (P : Y → Type 0) (f : X → Y) (xs : List X) (y : X) → AllByRecursion P (map f xs) → P (f y) → AllByRecursion P (map f (xs ++ y ∷ []))
mapped_grown P f [] y all here = (here, tt)
mapped_grown P f (x ∷ xs) y all here = (all.0, mapped_grown P f xs y all.1 here)
