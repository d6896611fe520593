-- The test of whether numbers ascend.
use Rattle.std.specs.Prelude.{Bool, true, false, nat_le, nat_lt, ◌&&◌, ◌^◌, Some, None, Err, ⊤}
use Rattle.std.proofs.Common.{◌≡◌, ℕ, zero, suc, ◌+◌, ◌<◌, ◌≤◌, List, [], ◌∷◌, length, get_or, map, refl, sym, ap, subst, ◌∙◌, arith}
use Rattle.std.specs.List.{IsAllAdjacentAnswer}
use Rattle.std.specs.List.Sorted.{IsStrictlyIncreasing}
use Rattle.std.proofs.lemmas.Bool.{le-leb, leb-true, lt-ltb}
use Rattle.std.proofs.lemmas.List.{get_or-map, length-map}
use Rattle.machine_state.proofs.Growing.{adjacent_ascend}
use Rattle.stack_save.specs.Parts.{AreAscending, AreParts, HasTaken, Takes}
use Rattle.stack_save.specs.Reading.{Found, ascending, ascending_above, found_where}
use Rattle.stack_save.specs.declared.fault.HeldFault.{HeldFault}
use Rattle.stack_save.specs.declared.fault.HeldFault.TheVariants.{Broken}
use Rattle.stack_save.specs.declared.fault.HeldRule.TheVariants.{BadLayout}

-- ---- what the test says

tail_increases : (x : ℕ) (xs : List ℕ) → IsStrictlyIncreasing (x ∷ xs) → IsStrictlyIncreasing xs
tail_increases x xs ascend = λ k h.
    let place : suc k + 1 ≡ suc (k + 1) = omega arith in
    let step = ascend (suc k) (omega arith) in
    subst (λ (n : ℕ). get_or xs k 0 < get_or (x ∷ xs) n 0) place step

head_below : (x : ℕ) (xs : List ℕ) → IsStrictlyIncreasing (x ∷ xs) → 0 < length xs → suc x ≤ get_or xs 0 0
head_below x xs ascend some = omega (arith, ascend 0 (omega arith))

passes : (low : ℕ) (xs : List ℕ) → IsStrictlyIncreasing xs → (0 < length xs → low ≤ get_or xs 0 0) → ascending_above low xs ≡ true
passes low [] ascend least = refl
passes low (x ∷ xs) ascend least =
    let here : nat_le low x ≡ true = le-leb low x (least (omega arith)) in
    let behind : ascending_above (suc x) xs ≡ true = passes (suc x) xs (tail_increases x xs ascend) (head_below x xs ascend) in
    rw (here, behind) refl

pub ascending-complete : (xs : List ℕ) → IsStrictlyIncreasing xs → ascending xs ≡ true
ascending-complete xs ascend = passes 0 xs ascend (λ some. omega arith)

both_true : (a b : Bool) → (a && b) ≡ true → (a ≡ true) × (b ≡ true)
both_true true true e = (refl, refl)
both_true true false e = absurd cc
both_true false b e = absurd cc

-- a number behind another is over it
first_above : (low : ℕ) (xs : List ℕ) → ascending_above low xs ≡ true → 0 < length xs → low ≤ get_or xs 0 0
first_above low [] passed some = absurd (omega arith)
first_above low (x ∷ xs) passed some = leb-true low x (both_true (nat_le low x) (ascending_above (suc x) xs) passed).0

step_increases : (x : ℕ) (xs : List ℕ) → (0 < length xs → suc x ≤ get_or xs 0 0) → IsStrictlyIncreasing xs → (k : ℕ) → k + 1 < length (x ∷ xs) → get_or (x ∷ xs) k 0 < get_or (x ∷ xs) (k + 1) 0
step_increases x xs above ascend zero h = above (omega arith)
step_increases x xs above ascend (suc k) h =
    let place : suc (k + 1) ≡ suc k + 1 = omega arith in
    subst (λ (n : ℕ). get_or xs k 0 < get_or (x ∷ xs) n 0) place (ascend k (omega arith))

increasing-from : (low : ℕ) (xs : List ℕ) → ascending_above low xs ≡ true → IsStrictlyIncreasing xs
increasing-from low [] passed = λ k h. absurd (omega arith)
increasing-from low (x ∷ xs) passed =
    let behind = (both_true (nat_le low x) (ascending_above (suc x) xs) passed).1 in
    step_increases x xs (first_above (suc x) xs behind) (increasing-from (suc x) xs behind)

pub ascending-increases : (xs : List ℕ) → ascending xs ≡ true → IsStrictlyIncreasing xs
ascending-increases xs passed = increasing-from 0 xs passed

-- a list whose numbers ascend is taken as the list is
pub ascending_taken : {A : Type 0} (numbers : List A → List ℕ) (InRange : A → Type 0) (spell : List A → List ℕ) (there : Found (List A)) (xs : List A) (old new : List ℕ)
    → HasTaken (AreParts (2 ^ 16) (λ (x : A). ⊤) InRange) spell there xs old new → ascending (numbers xs) ≡ true
    → HasTaken (AreAscending numbers InRange) spell (found_where (λ ys. ascending (numbers ys)) there) xs old new
ascending_taken {A} numbers InRange spell there xs old new t passed = record {
  may = record { fit = t.may; ascend = ascending-increases (numbers xs) passed };
  found = ap (λ (f : Found (List A)). found_where (λ ys. ascending (numbers ys)) f) t.found ∙ rw passed refl;
  bytes = t.bytes;
}

-- ---- what `is_sorted_by` answers

not_true : (b : Bool) → (b ≡ true → ⊥) → false ≡ b
not_true true never = absurd (never refl)
not_true false never = refl

-- the numbers at some place and the next are out of order
falls : {X : Type 0} (number : X → ℕ) (xs : List X) (k : ℕ) → k + 1 < length xs
    → ((d : X) → false ≡ nat_lt (number (get_or xs k d)) (number (get_or xs (k + 1) d))) → ascending (map number xs) ≡ true → ⊥
falls number [] k below out passed = omega arith
falls number (x ∷ xs) k below out passed =
    let ys = x ∷ xs in
    let here : get_or (map number ys) k 0 ≡ number (get_or ys k x) = get_or-map number ys k x 0 (omega arith) in
    let next : get_or (map number ys) (k + 1) 0 ≡ number (get_or ys (k + 1) x) = get_or-map number ys (k + 1) x 0 below in
    let above = ascending-increases (map number ys) passed k (omega (arith, length-map ys number, below)) in
    let told : nat_lt (number (get_or ys k x)) (number (get_or ys (k + 1) x)) ≡ true = lt-ltb (number (get_or ys k x)) (number (get_or ys (k + 1) x)) (omega (arith, here, next, above)) in
    let untold = out x in
    absurd cc

pub sorted_answer : {X : Type 0} (number : X → ℕ) (xs : List X) (r : Bool)
    → IsAllAdjacentAnswer (λ x y b. b ≡ nat_lt (number x) (number y)) xs r → r ≡ ascending (map number xs)
sorted_answer number xs true each = sym (ascending-complete (map number xs) (adjacent_ascend number xs each))
sorted_answer number xs false (k, below, out) = not_true (ascending (map number xs)) (falls number xs k below out)

-- a list whose numbers don't ascend isn't there
pub descending_missing : {T A : Type 0} (plain : T → List A) (numbers : List A → List ℕ) (InRange : A → Type 0) (spell : List A → List ℕ) (at : List ℕ → Found (List A)) (fault : HeldFault) (xs : List A) (old new : List ℕ)
    → fault ≡ Broken BadLayout → at old ≡ Some (xs, new) → ascending (numbers xs) ≡ false
    → Takes plain (AreAscending numbers InRange) spell (λ bytes. found_where (λ ys. ascending (numbers ys)) (at bytes)) (Err fault) old new
descending_missing {T} {A} plain numbers InRange spell at fault xs old new is found failed =
    let missing : found_where (λ ys. ascending (numbers ys)) (at old) ≡ None = ap (λ (f : Found (List A)). found_where (λ ys. ascending (numbers ys)) f) found ∙ rw failed refl in
    subst (λ (f : HeldFault). Takes plain (AreAscending numbers InRange) spell (λ bytes. found_where (λ ys. ascending (numbers ys)) (at bytes)) (Err f) old new) (sym is) (refl, missing)
