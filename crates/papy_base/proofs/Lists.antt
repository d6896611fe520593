-- Lists of numbers without repeats, by recursion, with one number put in behind another.
use Rattle.std.proofs.Common.{◌≡◌, ℕ, zero, suc, ◌<◌, ◌≤◌, ◌⊎◌, false, true, List, [], ◌∷◌, ◌++◌, length, get_or, eqb, AllPairs, Contains, refl, sym, subst, inl, inr, ⊎_elim, arith}
use Rattle.std.specs.List.{list_any, IsDistinct, AllByRecursion}
use Rattle.std.proofs.lemmas.Bool.{eqb-true, ne_eqb, or_cases}
use Rattle.std.proofs.lemmas.Map.Steps.{length-le_from_distinct_below}

abbrev pub In : ℕ → List ℕ → Type 0
In x [] = ⊥
In x (y ∷ ys) = (x ≡ y) ⊎ In x ys

abbrev pub Differ : List ℕ → Type 0
Differ [] = Unit {0}
Differ (x ∷ xs) = (In x xs → ⊥) × Differ xs

-- ---- elements of joined lists
pub in_left : (x : ℕ) (xs ys : List ℕ) → In x xs → In x (xs ++ ys)
in_left x [] ys h = absurd h
in_left x (y ∷ xs) ys h = ⊎_elim (λ (e : x ≡ y). inl e) (λ (g : In x xs). inr (in_left x xs ys g)) h

pub in_right : (x : ℕ) (xs ys : List ℕ) → In x ys → In x (xs ++ ys)
in_right x [] ys h = h
in_right x (y ∷ xs) ys h = inr (in_right x xs ys h)

pub in_either : (x : ℕ) (xs ys : List ℕ) → In x (xs ++ ys) → In x xs ⊎ In x ys
in_either x [] ys h = inr h
in_either x (y ∷ xs) ys h =
    ⊎_elim
    (λ (e : x ≡ y). inl (inl e))
    (λ (g : In x (xs ++ ys)).
    ⊎_elim (λ (l : In x xs). inl (inr l)) (λ (r : In x ys). inr r) (in_either x xs ys g))
    h

pub differ_left : (xs : List ℕ) (y : ℕ) (ys : List ℕ) → Differ (xs ++ y ∷ ys) → In y xs → ⊥
differ_left [] y ys d h = h
differ_left (x ∷ xs) y ys d h =
    ⊎_elim
    (λ (e : y ≡ x). d.0 (subst (λ n. In n (xs ++ y ∷ ys)) e (in_right y xs (y ∷ ys) (inl refl))))
    (λ (g : In y xs). differ_left xs y ys d.1 g)
    h

-- ---- one number put in behind another
pub in_more : (x : ℕ) (xs : List ℕ) (y z : ℕ) (ys : List ℕ) → In x (xs ++ y ∷ ys) → In x (xs ++ y ∷ z ∷ ys)
in_more x [] y z ys h = ⊎_elim (λ (e : x ≡ y). inl e) (λ (g : In x ys). inr (inr g)) h
in_more x (w ∷ xs) y z ys h = ⊎_elim (λ (e : x ≡ w). inl e) (λ (g : In x (xs ++ y ∷ ys)). inr (in_more x xs y z ys g)) h

pub in_new : (xs : List ℕ) (y z : ℕ) (ys : List ℕ) → In z (xs ++ y ∷ z ∷ ys)
in_new [] y z ys = inr (inl refl)
in_new (x ∷ xs) y z ys = inr (in_new xs y z ys)

pub in_cases : (x : ℕ) (xs : List ℕ) (y z : ℕ) (ys : List ℕ) → In x (xs ++ y ∷ z ∷ ys) → (x ≡ z) ⊎ In x (xs ++ y ∷ ys)
in_cases x [] y z ys h =
    ⊎_elim
    (λ (e : x ≡ y). inr (inl e))
    (λ (g : (x ≡ z) ⊎ In x ys). ⊎_elim (λ (e : x ≡ z). inl e) (λ (k : In x ys). inr (inr k)) g)
    h
in_cases x (w ∷ xs) y z ys h =
    ⊎_elim
    (λ (e : x ≡ w). inr (inl e))
    (λ (g : In x (xs ++ y ∷ z ∷ ys)). ⊎_elim (λ (e : x ≡ z). inl e) (λ (k : In x (xs ++ y ∷ ys)). inr (inr k)) (in_cases x xs y z ys g))
    h

pub differ_more : (xs : List ℕ) (y z : ℕ) (ys : List ℕ) → Differ (xs ++ y ∷ ys) → (In z (xs ++ y ∷ ys) → ⊥) → Differ (xs ++ y ∷ z ∷ ys)
differ_more [] y z ys d new =
    (λ (h : (y ≡ z) ⊎ In y ys). ⊎_elim (λ (e : y ≡ z). new (inl (sym e))) d.0 h, (λ (h : In z ys). new (inr h), d.1))
differ_more (x ∷ xs) y z ys d new =
    (λ (h : In x (xs ++ y ∷ z ∷ ys)). ⊎_elim (λ (e : x ≡ z). new (inl (sym e))) d.0 (in_cases x xs y z ys h), differ_more xs y z ys d.1 (λ h. new (inr h)))

-- ---- by place
pub in_at : (xs : List ℕ) (k d : ℕ) → k < length xs → In (get_or xs k d) xs
in_at [] k d h = absurd (omega arith)
in_at (x ∷ xs) zero d h = inl refl
in_at (x ∷ xs) (suc k) d h = inr (in_at xs k d (omega arith))

pub place_of : (x : ℕ) (xs : List ℕ) → In x xs → Contains xs x
place_of x [] h = absurd h
place_of x (y ∷ xs) h =
    ⊎_elim
    (λ (e : x ≡ y). (0, omega arith, sym e))
    (λ (g : In x xs). let w = place_of x xs g in (suc w.0, omega (arith, w.1), w.2))
    h

pub pairs_differ : (xs : List ℕ) → Differ xs → AllPairs (λ one other. one ≡ other → ⊥) xs
pairs_differ [] d i j x low high = absurd (omega arith)
pairs_differ (y ∷ xs) d i zero x low high = absurd (omega arith)
pairs_differ (y ∷ xs) d zero (suc j) x low high = λ (e : y ≡ get_or xs j x). d.0 (subst (λ n. In n xs) (sym e) (in_at xs j x (omega arith)))
pairs_differ (y ∷ xs) d (suc i) (suc j) x low high = pairs_differ xs d.1 i j x (omega arith) (omega arith)

-- ---- how many there are
distinct_from : (x : ℕ) (xs : List ℕ) → (In x xs → ⊥) → AllByRecursion (λ y. eqb x y ≡ false) xs
distinct_from x [] n = tt
distinct_from x (y ∷ xs) n = (ne_eqb x y (λ e. n (inl e)), distinct_from x xs (λ h. n (inr h)))

distinct : (xs : List ℕ) → Differ xs → IsDistinct eqb xs
unfolding IsDistinct
distinct [] d = tt
distinct (x ∷ xs) d = (distinct_from x xs d.0, distinct xs d.1)

in_from_any : (x : ℕ) (xs : List ℕ) → list_any (eqb x) xs ≡ true → In x xs
in_from_any x [] h = absurd (cc)
in_from_any x (y ∷ xs) h =
    ⊎_elim
    (λ (e : eqb x y ≡ true). inl (eqb-true x y e))
    (λ (g : list_any (eqb x) xs ≡ true). inr (in_from_any x xs g))
    (or_cases (eqb x y) (list_any (eqb x) xs) h)

pub length_differ : (xs : List ℕ) (bound : ℕ) → Differ xs → ((x : ℕ) → In x xs → x < bound) → length xs ≤ bound
length_differ xs bound d below = length-le_from_distinct_below xs bound (distinct xs d) (λ x h. below x (in_from_any x xs h))
