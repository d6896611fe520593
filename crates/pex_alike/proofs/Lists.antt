-- Lists in place of which a function of each item stands.
use Rattle.std.proofs.Common.{◌≡◌, ℕ, ◌<◌, List, [], ◌∷◌, length, get_or, refl, sym, ◌∙◌, ap, subst, arith, ◌↔◌, ◌+◌, ◌++◌, zero, suc, take, below_more}
use Rattle.std.specs.Prelude.{map, Bool, true, false, IsTrue}
use Rattle.std.specs.List.{All, Any}
use Rattle.std.proofs.lemmas.List.{get_or-map, get_or_default, length-map, take_more}
use Rattle.std.proofs.lemmas.List.Elements.{All-map}
use Rattle.std.proofs.Math.ListN.{get_or-map as map-get_or}
use Rattle.pex_alike.specs.SameCode.{SameEach, SameMembers}

each_at : {A B C D : Type 0} (R : C → D → Type 0) (p : A → C) (q : B → D) → (xs : List A) (ys : List B) → length xs ≡ length ys
    → ((n : ℕ) (x : A) (y : B) → n < length xs → R (p (get_or xs n x)) (q (get_or ys n y)))
    → (n : ℕ) (c : C) (d : D) → n < length (map p xs) → R (get_or (map p xs) n c) (get_or (map q ys) n d)
each_at R p q [] ys same h n c d lt = absurd (omega arith)
each_at R p q (x ∷ xs) [] same h n c d lt = absurd (omega (arith, same))
each_at R p q (x ∷ xs) (y ∷ ys) same h n c d lt =
    let within : n < length (x ∷ xs) = subst (λ (m : ℕ). n < m) (length-map (x ∷ xs) p) lt in
    let within_too : n < length (y ∷ ys) = subst (λ (m : ℕ). n < m) same within in
    rw (get_or-map p (x ∷ xs) n x c within, get_or-map q (y ∷ ys) n y d within_too) (h n x y within)

pub each_to_map : {A B C D : Type 0} (R : C → D → Type 0) (p : A → C) (q : B → D) → (xs : List A) (ys : List B)
    → SameEach (λ x y. R (p x) (q y)) xs ys → SameEach R (map p xs) (map q ys)
unfolding SameEach
each_to_map R p q xs ys h = (length-map xs p ∙ h.0 ∙ sym (length-map ys q), each_at R p q xs ys h.0 h.1)

pub each_from_map : {A B C D : Type 0} (R : C → D → Type 0) (p : A → C) (q : B → D) → (xs : List A) (ys : List B)
    → SameEach R (map p xs) (map q ys) → SameEach (λ x y. R (p x) (q y)) xs ys
unfolding SameEach
each_from_map R p q xs ys h = (
  sym (length-map xs p) ∙ h.0 ∙ length-map ys q,
  λ n x y lt. rw (← map-get_or p xs n x, ← map-get_or q ys n y) (h.1 n (p x) (q y) (subst (λ (m : ℕ). n < m) (sym (length-map xs p)) lt)),
)

any_to_map : {A C : Type 0} (P : C → Type 0) (p : A → C) (xs : List A) → Any (λ x. P (p x)) xs → Any P (map p xs)
any_to_map P p xs a =
    (a.0, p a.1, subst (λ (m : ℕ). a.0 < m) (sym (length-map xs p)) a.2, map-get_or p xs a.0 a.1 ∙ ap p a.3, a.4)

any_from_map : {A C : Type 0} (P : C → Type 0) (p : A → C) (xs : List A) → Any P (map p xs) → Any (λ x. P (p x)) xs
any_from_map P p [] a = absurd (let lt : a.0 < 0 = a.2 in omega arith)
any_from_map P p (x ∷ xs) a =
    let within : a.0 < length (x ∷ xs) = subst (λ (m : ℕ). a.0 < m) (length-map (x ∷ xs) p) a.2 in (
      a.0,
      get_or (x ∷ xs) a.0 x,
      within,
      get_or_default (x ∷ xs) a.0 (get_or (x ∷ xs) a.0 x) x within,
      subst P (sym a.3 ∙ get_or-map p (x ∷ xs) a.0 x a.1 within) a.4,
    )

all_from_map : {A C : Type 0} (P : C → Type 0) (p : A → C) (xs : List A) → All P (map p xs) → All (λ x. P (p x)) xs
all_from_map P p xs h n x lt = rw (← map-get_or p xs n x) (h n (p x) (subst (λ (m : ℕ). n < m) (sym (length-map xs p)) lt))

all_along : {A : Type 0} (P Q : A → Type 0) (xs : List A) → ((x : A) → P x → Q x) → All P xs → All Q xs
all_along P Q xs f h n x lt = f (get_or xs n x) (h n x lt)

pub members_to_map : {A C : Type 0} (R : C → C → Type 0) (p : A → C) → (xs ys : List A)
    → SameMembers (λ x y. R (p x) (p y)) xs ys → SameMembers R (map p xs) (map p ys)
unfolding SameMembers
members_to_map R p xs ys h = (
  length-map xs p ∙ h.0 ∙ sym (length-map ys p),
  All-map (λ c. Any (R c) (map p ys)) p xs (all_along _ _ xs (λ x. any_to_map (R (p x)) p ys) h.1),
  All-map (λ c. Any (λ d. R d c) (map p xs)) p ys (all_along _ _ ys (λ y. any_to_map (λ d. R d (p y)) p xs) h.2),
)

pub members_from_map : {A C : Type 0} (R : C → C → Type 0) (p : A → C) → (xs ys : List A)
    → SameMembers R (map p xs) (map p ys) → SameMembers (λ x y. R (p x) (p y)) xs ys
unfolding SameMembers
members_from_map R p xs ys h = (
  sym (length-map xs p) ∙ h.0 ∙ length-map ys p,
  all_along _ _ xs (λ x. any_from_map (R (p x)) p ys) (all_from_map (λ c. Any (R c) (map p ys)) p xs h.1),
  all_along _ _ ys (λ y. any_from_map (λ d. R d (p y)) p xs) (all_from_map (λ c. Any (λ d. R d c) (map p xs)) p ys h.2),
)

-- ---- loops that look for one of which something doesn't hold

pub all_no : {A : Type 0} (P : A → Type 0) (xs : List A) (n : ℕ) (x : A) (b : Bool) → n < length xs → x ≡ get_or xs n x
    → IsTrue b ↔ P x → b ≡ false → IsTrue false ↔ All P xs
all_no P xs n x b lt is h f = (
  λ t. absurd (cc),
  λ all. absurd (let holds : P x = subst P (sym is) (all n x lt) in let yes : b ≡ true = h.1 holds in cc),
)

pub all_more : {A : Type 0} (P : A → Type 0) (xs : List A) (n : ℕ) (x : A) → n < length xs → x ≡ get_or xs n x → P x
    → ((k : ℕ) (d : A) → k < n → P (get_or xs k d)) → (k : ℕ) (d : A) → k < n + 1 → P (get_or xs k d)
all_more P xs n x lt is here below k d within =
    below_more (λ m. P (get_or xs m d)) n (λ m less. below m d less) (subst P (is ∙ get_or_default xs n x d lt) here) k within

-- ---- one more at the end

one_pair : {A B : Type 0} (R : A → B → Type 0) (x : A) (y : B) → R x y → (n : ℕ) (a : A) (b : B) → n < 1 → R (get_or (x ∷ []) n a) (get_or (y ∷ []) n b)
one_pair R x y r zero a b lt = r
one_pair R x y r (suc n) a b lt = absurd (omega arith)

first_or_later : {A B : Type 0} (R : A → B → Type 0) (x : A) (y : B) (xs : List A) (ys : List B) → R x y
    → ((n : ℕ) (a : A) (b : B) → n < length xs → R (get_or xs n a) (get_or ys n b))
    → (n : ℕ) (a : A) (b : B) → n < length (x ∷ xs) → R (get_or (x ∷ xs) n a) (get_or (y ∷ ys) n b)
first_or_later R x y xs ys r h zero a b lt = r
first_or_later R x y xs ys r h (suc n) a b lt = h n a b (omega arith)

pub each_push : {A B : Type 0} (R : A → B → Type 0) (xs : List A) (ys : List B) (x : A) (y : B)
    → SameEach R xs ys → R x y → SameEach R (xs ++ x ∷ []) (ys ++ y ∷ [])
unfolding SameEach
each_push R [] [] x y h r = (refl, one_pair R x y r)
each_push R [] (b ∷ ys) x y h r = absurd (let same : 0 ≡ length (b ∷ ys) = h.0 in omega arith)
each_push R (a ∷ xs) [] x y h r = absurd (let same : length (a ∷ xs) ≡ 0 = h.0 in omega arith)
each_push R (a ∷ xs) (b ∷ ys) x y h r =
    let same : length (a ∷ xs) ≡ length (b ∷ ys) = h.0 in
    let tail : SameEach R xs ys = (omega arith, λ n c d lt. h.1 (suc n) c d (omega arith)) in
    let later : SameEach R (xs ++ x ∷ []) (ys ++ y ∷ []) = each_push R xs ys x y tail r in
    (ap suc later.0, first_or_later R a b (xs ++ x ∷ []) (ys ++ y ∷ []) (h.1 0 a b (omega arith)) later.1)

pub each_more : {A B : Type 0} (R : A → B → Type 0) (xs : List A) (ys : List B) (n : ℕ) (x : A) (y : B) → n < length xs → x ≡ get_or xs n x
    → SameEach R (take n xs) ys → R x y → SameEach R (take (n + 1) xs) (ys ++ y ∷ [])
each_more R xs ys n x y lt is h r =
    subst (λ (zs : List _). SameEach R zs (ys ++ y ∷ [])) (ap (λ z. take n xs ++ z ∷ []) is ∙ sym (take_more xs n x lt)) (each_push R (take n xs) ys x y h r)

pub each_length : {A B : Type 0} (R : A → B → Type 0) (xs : List A) (ys : List B) → SameEach R xs ys → length xs ≡ length ys
unfolding SameEach
each_length R xs ys h = h.0
