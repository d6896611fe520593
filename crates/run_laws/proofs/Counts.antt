-- How many elements pass a test after a list was changed, and what holds of each element then.
use Rattle.std.proofs.Common.{◌≡◌, ◌≢◌, ℕ, ◌+◌, ◌≤◌, Bool, true, false, cond, not, ◌||◌, ◌⊎◌, List, [], ◌∷◌, ◌++◌, map, Option, Some, refl, sym, ap, subst, ◌∙◌, inl, inr, arith}
use Rattle.std.specs.Prelude.{nat_lt}
use Rattle.std.specs.List.{filter, list_any, AllByRecursion}
use Rattle.std.proofs.lemmas.Bool.{eqb-true, eqb-false}
use Rattle.std.proofs.Math.Dec.{eqb}
use Rattle.run_laws.specs.Exclusive.{how_many, is_number, first_is}
use Rattle.script_meaning.specs.Locks.{with_number, with_pair, is_other, second_is, second_is_other, waited_for}
use Rattle.script_meaning.specs.Turns.{is_due, not_due}

-- ---- equal numbers
pub same_or_not : (a b : ℕ) → ((a ≡ b) × (eqb a b ≡ true)) ⊎ ((a ≢ b) × (eqb a b ≡ false))
same_or_not a b =
    elim (eqb a b) as (λ t. eqb a b ≡ t → ((a ≡ b) × (eqb a b ≡ true)) ⊎ ((a ≢ b) × (eqb a b ≡ false))) [
      | true ↦ λ e. inl (eqb-true a b e, e)
      | false ↦ λ e. inr (eqb-false a b e, e)
    ] refl

-- ---- counts
pub how_many-append : {X : Type 0} (test : X → Bool) (xs ys : List X) → how_many test (xs ++ ys) ≡ how_many test xs + how_many test ys
how_many-append test [] ys = omega arith
how_many-append test (x ∷ xs) ys = let ih = how_many-append test xs ys in omega (arith, ih)

how_many-cond : {X : Type 0} (test : X → Bool) (keep : Bool) (x : X) (xs : List X) → how_many test (cond keep (x ∷ xs) xs) ≡ cond keep (cond (test x) 1 0) 0 + how_many test xs
how_many-cond test true x xs = refl
how_many-cond test false x xs = omega arith

-- one element: whether it is k's, and whether it is n's
kept : (is_k is_n : Bool) (k_is_n : Bool) (c : ℕ) → (is_k ≡ true → is_n ≡ k_is_n) → (k_is_n ≡ true → is_n ≡ is_k) → cond (not is_k) (cond is_n 1 0) 0 + cond k_is_n 0 c ≡ cond k_is_n 0 (cond is_n 1 0 + c)
kept true true true c p q = refl
kept true true false c p q = absurd (let e = p refl in cc)
kept true false true c p q = absurd (let e = p refl in cc)
kept true false false c p q = omega arith
kept false true true c p q = absurd (let e = q refl in cc)
kept false true false c p q = refl
kept false false true c p q = refl
kept false false false c p q = refl

same_left : (a k n : ℕ) → eqb a k ≡ true → eqb a n ≡ eqb k n
same_left a k n t = ap (λ m. eqb m n) (eqb-true a k t)

same_right : (a k n : ℕ) → eqb k n ≡ true → eqb a n ≡ eqb a k
same_right a k n t = ap (λ m. eqb a m) (sym (eqb-true k n t))

pub how_many-without_second : (k n : ℕ) (ps : List (ℕ × ℕ)) → how_many (second_is n) (filter (second_is_other k) ps) ≡ cond (eqb k n) 0 (how_many (second_is n) ps)
how_many-without_second k n [] = elim (eqb k n) as (λ t. ◌≡◌ {A = ℕ} 0 (cond t 0 0)) [ true ↦ refl | false ↦ refl ]
how_many-without_second k n (p ∷ ps) =
    how_many-cond (second_is n) (second_is_other k p) p (filter (second_is_other k) ps) ∙ (ap (λ c. cond (not (eqb p.1 k)) (cond (eqb p.1 n) 1 0) 0 + c) (how_many-without_second k n ps) ∙ kept (eqb p.1 k) (eqb p.1 n) (eqb k n) (how_many (second_is n) ps) (same_left p.1 k n) (same_right p.1 k n))

pub how_many-without_number : (k n : ℕ) (ns : List ℕ) → how_many (is_number n) (filter (is_other k) ns) ≡ cond (eqb k n) 0 (how_many (is_number n) ns)
how_many-without_number k n [] = elim (eqb k n) as (λ t. ◌≡◌ {A = ℕ} 0 (cond t 0 0)) [ true ↦ refl | false ↦ refl ]
how_many-without_number k n (m ∷ ns) =
    how_many-cond (is_number n) (is_other k m) m (filter (is_other k) ns) ∙ (ap (λ c. cond (not (eqb m k)) (cond (eqb m n) 1 0) 0 + c) (how_many-without_number k n ns) ∙ kept (eqb m k) (eqb m n) (eqb k n) (how_many (is_number n) ns) (same_left m k n) (same_right m k n))

inserted : {X : Type 0} (test : X → Bool) (here : Bool) (x first : X) (rest with : List X) → how_many test with ≡ cond (test x) 1 0 + how_many test rest → how_many test (cond here (x ∷ first ∷ rest) (first ∷ with)) ≡ cond (test x) 1 0 + (cond (test first) 1 0 + how_many test rest)
inserted test true x first rest with h = refl
inserted test false x first rest with h = omega arith

pub how_many-with_number : (test : ℕ → Bool) (n : ℕ) (ns : List ℕ) → how_many test (with_number n ns) ≡ cond (test n) 1 0 + how_many test ns
how_many-with_number test n [] = refl
how_many-with_number test n (m ∷ ns) = inserted test (nat_lt n m) n m ns (with_number n ns) (how_many-with_number test n ns)

pub how_many-with_pair : (test : ℕ × ℕ → Bool) (p : ℕ × ℕ) (ps : List (ℕ × ℕ)) → how_many test (with_pair p ps) ≡ cond (test p) 1 0 + how_many test ps
how_many-with_pair test p [] = refl
how_many-with_pair test p (q ∷ ps) = inserted test (nat_lt p.0 q.0) p q ps (with_pair p ps) (how_many-with_pair test p ps)

-- a list is cut in two by a test
split_in_two : {X : Type 0} (test : X → Bool) (one : Bool) (x : X) (ls rs : List X) (n : ℕ) → how_many test ls + how_many test rs ≡ n → how_many test (cond (not one) (x ∷ ls) ls) + how_many test (cond one (x ∷ rs) rs) ≡ cond (test x) 1 0 + n
split_in_two test true x ls rs n h = omega arith
split_in_two test false x ls rs n h = omega arith

pub how_many-split : (test : ℕ × ℕ → Bool) (turn : ℕ) (ps : List (ℕ × ℕ)) → how_many test (filter (not_due turn) ps) + how_many test (filter (is_due turn) ps) ≡ how_many test ps
how_many-split test turn [] = refl
how_many-split test turn (p ∷ ps) = split_in_two test (is_due turn p) p (filter (not_due turn) ps) (filter (is_due turn) ps) (how_many test ps) (how_many-split test turn ps)

pub how_many-firsts : (n : ℕ) (ps : List (ℕ × ℕ)) → how_many (is_number n) (map (λ p. p.0) ps) ≡ how_many (first_is n) ps
how_many-firsts n [] = refl
how_many-firsts n (p ∷ ps) = ap (λ c. cond (eqb p.0 n) 1 0 + c) (how_many-firsts n ps)

-- a list that is cut has no more
fewer : {X : Type 0} (test : X → Bool) (keep : Bool) (x : X) (ls : List X) (n : ℕ) → how_many test ls ≤ n → how_many test (cond keep (x ∷ ls) ls) ≤ cond (test x) 1 0 + n
fewer test true x ls n h = omega arith
fewer test false x ls n h = omega arith

pub how_many-filter : {X : Type 0} (test keep : X → Bool) (xs : List X) → how_many test (filter keep xs) ≤ how_many test xs
how_many-filter test keep [] = omega arith
how_many-filter test keep (x ∷ xs) = fewer test (keep x) x (filter keep xs) (how_many test xs) (how_many-filter test keep xs)

-- where some element passes, the count isn't 0
any_step : (here : Bool) (there : Bool) (c : ℕ) → (there ≡ true → 1 ≤ c) → (there ≡ false → c ≡ 0) → (here || there ≡ true → 1 ≤ cond here 1 0 + c) × (here || there ≡ false → cond here 1 0 + c ≡ 0)
any_step true there c p q = (λ e. omega arith, λ e. absurd (cc))
any_step false there c p q = (λ e. omega (arith, p e), λ e. omega (arith, q e))

any_count : {X : Type 0} (test : X → Bool) (xs : List X) → (list_any test xs ≡ true → 1 ≤ how_many test xs) × (list_any test xs ≡ false → how_many test xs ≡ 0)
any_count test [] = (λ e. absurd (cc), λ e. refl)
any_count test (x ∷ xs) = let ih = any_count test xs in any_step (test x) (list_any test xs) (how_many test xs) ih.0 ih.1

pub some_pass : {X : Type 0} (test : X → Bool) (xs : List X) → list_any test xs ≡ true → 1 ≤ how_many test xs
some_pass test xs = (any_count test xs).0

pub none_pass : {X : Type 0} (test : X → Bool) (xs : List X) → list_any test xs ≡ false → how_many test xs ≡ 0
none_pass test xs = (any_count test xs).1

any_more : (here there : Bool) (c : ℕ) → (1 ≤ c → there ≡ true) → 1 ≤ cond here 1 0 + c → here || there ≡ true
any_more true there c p h = refl
any_more false there c p h = p (omega arith)

pub passes_from_count : {X : Type 0} (test : X → Bool) (xs : List X) → 1 ≤ how_many test xs → list_any test xs ≡ true
passes_from_count test [] h = absurd (omega arith)
passes_from_count test (x ∷ xs) h = any_more (test x) (list_any test xs) (how_many test xs) (passes_from_count test xs) h

-- ---- what holds of each
pub all_step : {X : Type 0} {P Q : X → Type 0} (xs : List X) → ((x : X) → P x → Q x) → AllByRecursion P xs → AllByRecursion Q xs
all_step [] f a = tt
all_step (x ∷ xs) f a = (f x a.0, all_step xs f a.1)

pub all-append : {X : Type 0} (P : X → Type 0) (xs : List X) (y : X) → AllByRecursion P xs → P y → AllByRecursion P (xs ++ y ∷ [])
all-append P [] y a p = (p, tt)
all-append P (x ∷ xs) y a p = (a.0, all-append P xs y a.1 p)

all-cond : {X : Type 0} (P : X → Type 0) (keep : Bool) (x : X) (xs : List X) → P x → AllByRecursion P xs → AllByRecursion P (cond keep (x ∷ xs) xs)
all-cond P true x xs p a = (p, a)
all-cond P false x xs p a = a

pub all-filter : {X : Type 0} (P : X → Type 0) (keep : X → Bool) (xs : List X) → AllByRecursion P xs → AllByRecursion P (filter keep xs)
all-filter P keep [] a = tt
all-filter P keep (x ∷ xs) a = all-cond P (keep x) x (filter keep xs) a.0 (all-filter P keep xs a.1)

all-inserted : {X : Type 0} (P : X → Type 0) (here : Bool) (x first : X) (rest with : List X) → P x → AllByRecursion P (first ∷ rest) → AllByRecursion P with → AllByRecursion P (cond here (x ∷ first ∷ rest) (first ∷ with))
all-inserted P true x first rest with p a b = (p, a)
all-inserted P false x first rest with p a b = (a.0, b)

pub all-with_number : (P : ℕ → Type 0) (n : ℕ) (ns : List ℕ) → P n → AllByRecursion P ns → AllByRecursion P (with_number n ns)
all-with_number P n [] p a = (p, tt)
all-with_number P n (m ∷ ns) p a = all-inserted P (nat_lt n m) n m ns (with_number n ns) p a (all-with_number P n ns p a.1)

pub all-with_pair : (P : ℕ × ℕ → Type 0) (p : ℕ × ℕ) (ps : List (ℕ × ℕ)) → P p → AllByRecursion P ps → AllByRecursion P (with_pair p ps)
all-with_pair P p [] h a = (h, tt)
all-with_pair P p (q ∷ ps) h a = all-inserted P (nat_lt p.0 q.0) p q ps (with_pair p ps) h a (all-with_pair P p ps h a.1)

-- what changes for k alone changes for no element, where none is k's
not_counted : (t : Bool) (c : ℕ) → cond t 1 0 + c ≡ 0 → (t ≡ false) × (c ≡ 0)
not_counted true c h = absurd (omega arith)
not_counted false c h = (refl, omega arith)

pub all_others : {X : Type 0} {P Q : X → Type 0} (test : X → Bool) (xs : List X) → how_many test xs ≡ 0 → ((x : X) → test x ≡ false → P x → Q x) → AllByRecursion P xs → AllByRecursion Q xs
all_others test [] h f a = tt
all_others test (x ∷ xs) h f a =
    let n = not_counted (test x) (how_many test xs) h in
    (f x n.0 a.0, all_others test xs n.1 f a.1)

-- where some element passes, one that passes has what each has
counted_step : {X : Type 0} (P : X → Type 0) (test : X → Bool) (t : Bool) (x : X) (c : ℕ) → test x ≡ t → P x → (1 ≤ c → (y : X) × ((test y ≡ true) × P y)) → 1 ≤ cond t 1 0 + c → (y : X) × ((test y ≡ true) × P y)
counted_step P test true x c e p more h = (x, (e, p))
counted_step P test false x c e p more h = more (omega arith)

pub counted : {X : Type 0} (P : X → Type 0) (test : X → Bool) (xs : List X) → AllByRecursion P xs → 1 ≤ how_many test xs → (y : X) × ((test y ≡ true) × P y)
counted P test [] a h = absurd (omega arith)
counted P test (x ∷ xs) a h = counted_step P test (test x) x (how_many test xs) refl a.0 (counted P test xs a.1) h

-- ---- pairs
pair_same : (p : ℕ × ℕ) (i k : ℕ) → p.0 ≡ i → p.1 ≡ k → p ≡ (i, k)
pair_same p i k a b = λ j. (a j, b j)

waited_step : (k : ℕ) (p : ℕ × ℕ) (rest : Option ℕ) (c i : ℕ) (P : ℕ × ℕ → Type 0) → (t : Bool) → eqb p.1 k ≡ t → P p → (rest ≡ Some i → (1 ≤ c) × P (i, k)) → cond t (Some p.0) rest ≡ Some i → (1 ≤ cond t 1 0 + c) × P (i, k)
waited_step k p rest c i P true e here more h = (omega arith, subst (λ q. P q) (pair_same p i k (cc) (eqb-true p.1 k e)) here)
waited_step k p rest c i P false e here more h = let m = more h in (omega (arith, m.0), m.1)

-- a stack that waits for an instance has a pair with it
pub waits_for : (k : ℕ) (ps : List (ℕ × ℕ)) (i : ℕ) (P : ℕ × ℕ → Type 0) → AllByRecursion P ps → waited_for k ps ≡ Some i → (1 ≤ how_many (second_is k) ps) × P (i, k)
waits_for k [] i P a h = absurd (cc)
waits_for k (p ∷ ps) i P a h =
    waited_step k p (waited_for k ps) (how_many (second_is k) ps) i P (eqb p.1 k) refl a.0 (waits_for k ps i P a.1) h
