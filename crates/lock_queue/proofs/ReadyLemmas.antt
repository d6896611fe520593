-- Bits of words, and the first number that passes a test.
use Rattle.std.proofs.Common.{◌≡◌, ◌≢◌, ℕ, zero, suc, ◌+◌, ◌-◌, ◌*◌, ◌/◌, ◌%◌, ◌^◌, ◌<◌, ◌≤◌, min, List, [], ◌∷◌, ◌++◌, length, Option, Some, None, Bool, true, false, cond, eqb, get_or, sym, refl, ap, ◌∙◌, ⊎_elim, arith, bit_and, bit_or, w64}
use Rattle.std.proofs.Math.ListN.{set}
use Rattle.std.proofs.lemmas.List.{get_or-set_other}
use Rattle.std.proofs.lemmas.Grind.{get_or-set_at}
use Rattle.std.proofs.lemmas.Bool.{eq-eqb, ne_eqb, false≢true, cases_lt}
use Rattle.std.proofs.lemmas.Bool.Decides.{eqb_tells}
use Rattle.std.proofs.lemmas.Nat.Bits.{bit_at_set_same, bit_at_set_other, bit_at_clear_same, bit_at_clear_other, bit_at_and, bit_at-lt, bit_at-zero, bit_at-trailing_zeros, bit_at_mask_inside, bit_at_mask_below, ones_shl}
use Rattle.std.specs.Int.{bit_at, trailing_zeros}
use Rattle.std.specs.List.{find, range_with_len}
use Rattle.std.specs.Option.{IfSome, IfNone}
use Rattle.lock_queue.specs.Ready.{is_member}
use Rattle.lock_queue.specs.LockTable.{numbers_from}

-- ---- one bit put in or taken out
pub bit_put : (word place k : ℕ) → place < 64 → eqb (bit_at (bit_or word (1 * 2 ^ place % 18446744073709551616)) k) 1 ≡ cond (eqb k place) true (eqb (bit_at word k) 1)
bit_put word place k within =
    ⊎_elim
    (λ (same : (eqb k place ≡ true) × (k ≡ place)).
    ap (λ n. eqb (bit_at (bit_or word (1 * 2 ^ place % 18446744073709551616)) n) 1) same.1
    ∙ ap (λ b. eqb b 1) (bit_at_set_same w64 word place within)
    ∙ sym (ap (λ b. cond b true (eqb (bit_at word k) 1)) same.0))
    (λ (other : (eqb k place ≡ false) × (k ≢ place)).
    ap (λ b. eqb b 1) (bit_at_set_other w64 word place within k other.1)
    ∙ sym (ap (λ b. cond b true (eqb (bit_at word k) 1)) other.0))
    (eqb_tells k place)

pub bit_taken : (word place k : ℕ) → place < 64 → k < 64 → eqb (bit_at (bit_and word (18446744073709551615 - 1 * 2 ^ place % 18446744073709551616)) k) 1 ≡ cond (eqb k place) false (eqb (bit_at word k) 1)
bit_taken word place k within k_in =
    ⊎_elim
    (λ (same : (eqb k place ≡ true) × (k ≡ place)).
    ap (λ n. eqb (bit_at (bit_and word (18446744073709551615 - 1 * 2 ^ place % 18446744073709551616)) n) 1) same.1
    ∙ ap (λ b. eqb b 1) (bit_at_clear_same w64 word place within)
    ∙ sym (ap (λ b. cond b false (eqb (bit_at word k) 1)) same.0))
    (λ (other : (eqb k place ≡ false) × (k ≢ place)).
    ap (λ b. eqb b 1) (bit_at_clear_other w64 word place within k k_in other.1)
    ∙ sym (ap (λ b. cond b false (eqb (bit_at word k) 1)) other.0))
    (eqb_tells k place)

-- ---- the lowest bit from a place on
abbrev pub high : ℕ → ℕ → ℕ
high word from = bit_and word (18446744073709551615 * 2 ^ from % 18446744073709551616)

high_inside : (word from j : ℕ) → from < 64 → from ≤ j → j < 64 → bit_at (high word from) j ≡ bit_at word j
high_inside word from j within above below =
    let mask : bit_at (18446744073709551615 * 2 ^ from % 18446744073709551616) j ≡ 1 =
    ap (λ m. bit_at m j) (ones_shl 64 from (omega arith)) ∙ bit_at_mask_inside from 64 j above below in
    let two = bit_at-lt word j in
    bit_at_and word (18446744073709551615 * 2 ^ from % 18446744073709551616) j ∙ ap (min (bit_at word j)) mask ∙ min_one (bit_at word j) two
  where
    min_one : (b : ℕ) → b < 2 → min b 1 ≡ b
    min_one b two = omega arith

high_below : (word from j : ℕ) → from < 64 → j < from → bit_at (high word from) j ≡ 0
high_below word from j within below =
    let mask : bit_at (18446744073709551615 * 2 ^ from % 18446744073709551616) j ≡ 0 =
    ap (λ m. bit_at m j) (ones_shl 64 from (omega arith)) ∙ bit_at_mask_below from 64 j below in
    bit_at_and word (18446744073709551615 * 2 ^ from % 18446744073709551616) j ∙ ap (min (bit_at word j)) mask ∙ min_zero (bit_at word j)
  where
    min_zero : (b : ℕ) → min b 0 ≡ 0
    min_zero b = omega arith

pub no_bit : (word from : ℕ) → from < 64 → high word from ≡ 0 → (j : ℕ) → from ≤ j → j < 64 → bit_at word j ≡ 0
no_bit word from within none j above below =
    sym (high_inside word from j within above below) ∙ ap (λ n. bit_at n j) none ∙ bit_at-zero j

pub lowest_is : (word from : ℕ) → from < 64 → high word from < 18446744073709551616 → (high word from ≡ 0 → ⊥) → ((from ≤ trailing_zeros w64 (high word from)) × (trailing_zeros w64 (high word from) < 64) × (bit_at word (trailing_zeros w64 (high word from)) ≡ 1)) × ((j : ℕ) → from ≤ j → j < trailing_zeros w64 (high word from) → bit_at word j ≡ 0)
lowest_is word from within fits some =
    let t = trailing_zeros w64 (high word from) in
    let least = bit_at-trailing_zeros w64 (high word from) (omega arith) fits in
    let above : from ≤ t =
    ⊎_elim
    (λ (lower : t < from). absurd (zero_one (sym (high_below word from t within lower) ∙ least.1)))
    (λ (h : from ≤ t). h)
    (cases_lt t from) in (
      (above, least.0, sym (high_inside word from t within above least.0) ∙ least.1),
      λ j from_j below. sym (high_inside word from j within from_j (lt_trans j t 64 below least.0)) ∙ least.2 j below,
    )
  where
    zero_one : ◌≡◌ {A = ℕ} 0 1 → ⊥
    zero_one e = cc

    lt_trans : (a b c : ℕ) → a < b → b < c → a < c
    lt_trans a b c h k = omega arith

pub member-set : (words : List ℕ) (place stack word k : ℕ) (is_in : Bool) → place ≡ stack / 64 → place < length words → ((p : ℕ) → p < 64 → eqb (bit_at word p) 1 ≡ cond (eqb p (stack % 64)) is_in (eqb (bit_at (get_or words place 0) p) 1)) → is_member (set words place word) k ≡ cond (eqb k stack) is_in (is_member words k)
member-set words place stack word k is_in place_is within bits =
    ⊎_elim
    (λ (here : (eqb (k / 64) place ≡ true) × (k / 64 ≡ place)).
    ap (λ w. eqb (bit_at w (k % 64)) 1) (get_or-set_at words place (k / 64) word 0 here.1 within)
    ∙ bits (k % 64) (omega arith)
    ∙ ap (λ q. cond (eqb (k % 64) (stack % 64)) is_in (eqb (bit_at (get_or words q 0) (k % 64)) 1)) (sym here.1)
    ∙ ap (λ b. cond b is_in (is_member words k)) (same_test (here.1 ∙ place_is)))
    (λ (there : (eqb (k / 64) place ≡ false) × (k / 64 ≢ place)).
    ap (λ w. eqb (bit_at w (k % 64)) 1) (get_or-set_other words place (k / 64) word 0 there.1)
    ∙ ap (λ b. cond b is_in (is_member words k)) (sym (ne_eqb k stack (λ (e : k ≡ stack). there.1 (ap (λ n. n / 64) e ∙ sym place_is)))))
    (eqb_tells (k / 64) place)
  where
    same_test : k / 64 ≡ stack / 64 → eqb (k % 64) (stack % 64) ≡ eqb k stack
    same_test quotients =
        ⊎_elim
        (λ (same : (eqb k stack ≡ true) × (k ≡ stack)). eq-eqb (k % 64) (stack % 64) (ap (λ n. n % 64) same.1) ∙ sym same.0)
        (λ (other : (eqb k stack ≡ false) × (k ≢ stack)).
        ne_eqb (k % 64) (stack % 64) (λ (e : k % 64 ≡ stack % 64). other.1 (omega arith)) ∙ sym other.0)
        (eqb_tells k stack)

-- ---- the first number that passes
find-some : (p : ℕ → Bool) (xs ys : List ℕ) (k : ℕ) → find p xs ≡ Some k → find p (xs ++ ys) ≡ Some k
find-some p [] ys k e = cc
find-some p (x ∷ xs) ys k e = find_case (p x) (find-some p xs ys k) e where
  find_case : (b : Bool) → (find p xs ≡ Some k → find p (xs ++ ys) ≡ Some k) → cond b (Some x) (find p xs) ≡ Some k → cond b (Some x) (find p (xs ++ ys)) ≡ Some k
  find_case true rest e = e
  find_case false rest e = rest e

find-none : (p : ℕ → Bool) (xs ys : List ℕ) → find p xs ≡ None → find p (xs ++ ys) ≡ find p ys
find-none p [] ys e = refl
find-none p (x ∷ xs) ys e = find_case (p x) (find-none p xs ys) e where
  find_case : (b : Bool) → (find p xs ≡ None → find p (xs ++ ys) ≡ find p ys) → cond b (Some x) (find p xs) ≡ None → cond b (Some x) (find p (xs ++ ys)) ≡ find p ys
  find_case true rest e = cc
  find_case false rest e = rest e

pub find_agree : (p q : ℕ → Bool) → ((k : ℕ) → p k ≡ q k) → (xs : List ℕ) → find p xs ≡ find q xs
find_agree p q same [] = refl
find_agree p q same (x ∷ xs) =
    ap (λ b. cond b (Some x) (find p xs)) (same x) ∙ ap (cond (q x) (Some x)) (find_agree p q same xs)

find_range : (p : ℕ → Bool) (n start k : ℕ) → start ≤ k → k < start + n → p k ≡ true → ((j : ℕ) → start ≤ j → j < k → p j ≡ false) → find p (range_with_len start n) ≡ Some k
find_range p zero start k above below passes least = absurd (omega arith)
find_range p (suc n) start k above below passes least =
    ⊎_elim
    (λ (later : start < k).
    ap (λ b. cond b (Some start) (find p (range_with_len (start + 1) n))) (least start (omega arith) later)
    ∙ find_range p n (start + 1) k (omega arith) (omega arith) passes (λ j h. least j (omega arith)))
    (λ (here : k ≤ start).
    let same : start ≡ k = omega arith in
    ap (λ b. cond b (Some start) (find p (range_with_len (start + 1) n))) (ap p same ∙ passes) ∙ ap Some same)
    (cases_lt start k)

find_range_none : (p : ℕ → Bool) (n start : ℕ) → ((j : ℕ) → start ≤ j → j < start + n → p j ≡ false) → find p (range_with_len start n) ≡ None
find_range_none p zero start none = refl
find_range_none p (suc n) start none =
    ap (λ b. cond b (Some start) (find p (range_with_len (start + 1) n))) (none start (omega arith) (omega arith))
    ∙ find_range_none p n (start + 1) (λ j above below. none j (omega arith) (omega arith))

below_bound : (p : ℕ → Bool) (bound k : ℕ) → ((j : ℕ) → bound ≤ j → p j ≡ false) → p k ≡ true → k < bound
below_bound p bound k past passes =
    ⊎_elim (λ (h : k < bound). h) (λ (h : bound ≤ k). absurd (false≢true (sym (past k h) ∙ passes))) (cases_lt k bound)

pub next_found : (p : ℕ → Bool) (start bound k : ℕ) → start ≤ bound → ((j : ℕ) → bound ≤ j → p j ≡ false) → start ≤ k → p k ≡ true → ((j : ℕ) → start ≤ j → j < k → p j ≡ false) → Some k ≡ find p (numbers_from start bound)
next_found p start bound k within past above passes least =
    let below = below_bound p bound k past passes in
    sym (find-some p (range_with_len start (bound - start)) (range_with_len 0 start) k (find_range p (bound - start) start k above (omega arith) passes least))

pub next_wrapped : (p : ℕ → Bool) (start bound : ℕ) (r : Option ℕ) → ((j : ℕ) → start ≤ j → p j ≡ false) → IfSome r (λ k. (0 ≤ k) × (p k ≡ true)) → IfSome r (λ k. (j : ℕ) → 0 ≤ j → j < k → p j ≡ false) → IfNone r ((j : ℕ) → 0 ≤ j → p j ≡ false) → r ≡ find p (numbers_from start bound)
next_wrapped p start bound None later found least none =
    sym (find-none p (range_with_len start (bound - start)) (range_with_len 0 start) (find_range_none p (bound - start) start (λ j above below. later j above))
    ∙ find_range_none p start 0 (λ j above below. none j above))
next_wrapped p start bound (Some k) later found least none =
    let below = below_bound p start k later found.1 in
    sym (find-none p (range_with_len start (bound - start)) (range_with_len 0 start) (find_range_none p (bound - start) start (λ j above below. later j above))
    ∙ find_range p start 0 k (omega arith) (omega arith) found.1 least)
