-- Every stack that has started is done exactly where as many are done as have started, each at most once.
use Rattle.std.proofs.Common.{◌≡◌, ◌≢◌, ℕ, zero, suc, ◌+◌, ◌<◌, ◌≤◌, Bool, true, false, cond, ◌&&◌, ◌⊎◌, inl, inr, List, [], ◌∷◌, length, refl, sym, ap, subst, ◌∙◌, arith}
use Rattle.std.specs.List.{list_all, list_any, range_with_len}
use Rattle.std.proofs.Math.Dec.{eqb, ltb}
use Rattle.std.proofs.lemmas.Bool.{cases_lt, eqb-true, eqb-false}
use Rattle.std.proofs.lemmas.Bool.Decides.{nat_tests}
use Rattle.run_laws.specs.Exclusive.{how_many, is_number}
use Rattle.script_meaning.specs.Turns.{all_done}
use Rattle.script_meaning.specs.World.{World}
use Rattle.stack_places.specs.Places.{IsAway, PlaceLists, placed, standings}
use Rattle.stack_places.proofs.Standing.{none_there, some_there}

same_or_less : (k n : ℕ) → k < suc n → (k ≡ n) ⊎ (k < n)
same_or_less k n l = elim (cases_lt k n) as (λ _. (k ≡ n) ⊎ (k < n)) [ inl a ↦ inr a | inr a ↦ inl (omega arith) ]

same_or_more : (s k : ℕ) → s ≤ k → (s ≡ k) ⊎ (s < k)
same_or_more s k l = elim (cases_lt s k) as (λ _. (s ≡ k) ⊎ (s < k)) [ inl a ↦ inr a | inr a ↦ inl (omega arith) ]

none_or_one : (n : ℕ) → n ≤ 1 → (n ≡ 0) ⊎ (n ≡ 1)
none_or_one zero h = inl refl
none_or_one (suc n) h = inr (omega arith)

-- how many of these numbers are below n
abbrev below : ℕ → List ℕ → ℕ
below n ds = how_many (λ d. ltb d n) ds

below_zero : (ds : List ℕ) → below 0 ds ≡ 0
below_zero [] = refl
below_zero (d ∷ ds) = let e = below_zero ds in grind (arith, nat_tests)

below_more : (n : ℕ) (ds : List ℕ) → below (suc n) ds ≡ below n ds + how_many (is_number n) ds
below_more n [] = refl
below_more n (d ∷ ds) = let e = below_more n ds in grind (arith, nat_tests)

is_below : (n d c : ℕ) → (n ≤ d → cond (eqb d d) 1 0 + c ≡ 0) → d < n
is_below n d c h = elim (cases_lt d n) as (λ _. d < n) [ inl l ↦ l | inr l ↦ absurd (let e = h l in grind (arith, nat_tests)) ]

all_below : (n : ℕ) (ds : List ℕ) → ((k : ℕ) → n ≤ k → how_many (is_number k) ds ≡ 0) → below n ds ≡ length ds
all_below n [] h = refl
all_below n (d ∷ ds) h =
    let i = all_below n ds (λ k l. let e = h k l in omega (arith, e)) in
    let b = is_below n d (how_many (is_number d) ds) (h d) in
    grind (arith, nat_tests)

at_most : (n : ℕ) (ds : List ℕ) → ((k : ℕ) → k < n → how_many (is_number k) ds ≤ 1) → below n ds ≤ n
at_most zero ds h = let e = below_zero ds in omega arith
at_most (suc n) ds h =
    let e = below_more n ds in
    let i = at_most n ds (λ k l. h k (omega arith)) in
    let o = h n (omega arith) in
    omega arith

-- each number below n is one of them
each_one : (n : ℕ) (ds : List ℕ) → ((k : ℕ) → k < n → how_many (is_number k) ds ≤ 1) → below n ds ≡ n → (k : ℕ) → k < n → 1 ≤ how_many (is_number k) ds
each_one zero ds h b k l = absurd (omega arith)
each_one (suc n) ds h b k l =
    let e = below_more n ds in
    let m = at_most n ds (λ j i. h j (omega arith)) in
    let o = h n (omega arith) in
    elim (same_or_less k n l) as (λ _. 1 ≤ how_many (is_number k) ds) [
      | inl s ↦ subst (λ j. 1 ≤ how_many (is_number j) ds) (sym s) (omega arith)
      | inr s ↦ each_one n ds (λ j i. h j (omega arith)) (omega arith) k s
    ]

-- some number below n is none of them
one_lacks : (n : ℕ) (ds : List ℕ) → ((k : ℕ) → k < n → how_many (is_number k) ds ≤ 1) → below n ds < n → (k : ℕ) × (k < n) × (how_many (is_number k) ds ≡ 0)
one_lacks zero ds h b = absurd (omega arith)
one_lacks (suc n) ds h b =
    let e = below_more n ds in
    let o = h n (omega arith) in
    elim (none_or_one (how_many (is_number n) ds) o) as (λ _. (k : ℕ) × (k < suc n) × (how_many (is_number k) ds ≡ 0)) [
      | inl z ↦ (n, omega arith, z)
      | inr z ↦ let w = one_lacks n ds (λ j i. h j (omega arith)) (omega arith) in (w.0, omega (arith, w.1), w.2)
    ]

-- ---- all of a range
abbrev found : List ℕ → ℕ → Bool
found ds k = list_any (λ stack. eqb stack k) ds

all_found : (s n : ℕ) (ds : List ℕ) → ((k : ℕ) → s ≤ k → k < s + n → found ds k ≡ true) → list_all (found ds) (range_with_len s n) ≡ true
all_found s zero ds h = refl
all_found s (suc n) ds h =
    let here = h s (omega arith) (omega arith) in
    let rest = all_found (s + 1) n ds (λ k a b. h k (omega arith) (omega arith)) in
    ap (λ b. b && list_all (found ds) (range_with_len (s + 1) n)) here ∙ rest

and_false : (a : Bool) → a && false ≡ false
and_false true = refl
and_false false = refl

one_missing : (s n k : ℕ) (ds : List ℕ) → s ≤ k → k < s + n → found ds k ≡ false → list_all (found ds) (range_with_len s n) ≡ false
one_missing s zero k ds a b h = absurd (omega arith)
one_missing s (suc n) k ds a b h =
    elim (same_or_more s k a) as (λ _. list_all (found ds) (range_with_len s (suc n)) ≡ false) [
      | inl e ↦ ap (λ b. b && list_all (found ds) (range_with_len (s + 1) n)) (ap (found ds) e ∙ h)
      | inr m ↦ ap (λ b. found ds s && b) (one_missing (s + 1) n k ds (omega arith) (omega arith) h) ∙ and_false (found ds s)
    ]

-- ---- of places
module _ (places : PlaceLists) (started : ℕ) (once : (k : ℕ) → k < started → standings places k ≤ 1) (none_else : (k : ℕ) → started ≤ k → IsAway places k) where
  done_once : (k : ℕ) → k < started → how_many (is_number k) places.done ≤ 1
  done_once k l = let o = once k l in omega (arith, o)

  done_below : below started places.done ≡ length places.done
  done_below = all_below started places.done (λ k l. let o = none_else k l in omega (arith, o))

  all_are : length places.done ≡ started → list_all (found places.done) (range_with_len 0 started) ≡ true
  all_are h =
      all_found 0 started places.done (λ k a b. some_there (is_number k) places.done (each_one started places.done done_once (done_below ∙ h) k (omega arith)))

  not_all_are : length places.done ≢ started → list_all (found places.done) (range_with_len 0 started) ≡ false
  not_all_are h =
      let m = at_most started places.done done_once in
      let b = done_below in
      let less : below started places.done < started = omega (arith, h) in
      let w = one_lacks started places.done done_once less in
      one_missing 0 started w.0 places.done (omega arith) (omega (arith, w.1)) (none_there (is_number w.0) places.done w.2)

  pub all_by_count : (count : ℕ) → count ≡ length places.done → (world : World) → world.started ≡ started → eqb count started ≡ all_done (placed places world)
  all_by_count count e world s =
      by_count (eqb (length places.done) started) refl where
        told : eqb count started ≡ eqb (length places.done) started
        told = ap (λ n. eqb n started) e

        here : all_done (placed places world) ≡ list_all (found places.done) (range_with_len 0 started)
        here = ap (λ n. list_all (found places.done) (range_with_len 0 n)) s

        by_count : (t : Bool) → eqb (length places.done) started ≡ t → eqb count started ≡ all_done (placed places world)
        by_count true h = told ∙ (h ∙ (sym (all_are (eqb-true (length places.done) started h)) ∙ sym here))
        by_count false h = told ∙ (h ∙ (sym (not_all_are (eqb-false (length places.done) started h)) ∙ sym here))
