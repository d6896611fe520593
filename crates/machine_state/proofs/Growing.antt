-- Lists that a loop makes longer by one item at a time: what holds of each item, and lists that ascend.
use Rattle.std.specs.Prelude.{true, nat_lt}
use Rattle.std.proofs.Common.{◌≡◌, ℕ, ◌+◌, ◌<◌, ◌≤◌, List, [], ◌∷◌, ◌++◌, length, get_or, map, arith, inl, inr, ◌⊎◌, length-append, sym}
use Rattle.std.proofs.lemmas.Grind.{common_steps}
use Rattle.std.proofs.lemmas.Bool.{ltb-true}
use Rattle.std.proofs.lemmas.List.{map-append, get_or_push, get_or-map, length-map}
use Rattle.std.proofs.Math.ListN.{get_or-append}
use Rattle.std.specs.List.{AllAdjacentBelow, AllByRecursion}
use Rattle.std.specs.List.Sorted.{IsStrictlyIncreasing}

-- ---- what holds of each item

pub each-append : {X : Type 0} (P : X → Type 0) (xs ys : List X) → AllByRecursion P xs → AllByRecursion P ys → AllByRecursion P (xs ++ ys)
each-append P [] ys p q = q
each-append P (x ∷ xs) ys p q = (p.0, each-append P xs ys p.1 q)

-- one more item, at the end
pub each_more : {X : Type 0} (P : X → Type 0) (xs : List X) (x : X) → AllByRecursion P xs → P x → AllByRecursion P (xs ++ x ∷ [])
each_more P xs x each here = each-append P xs (x ∷ []) each (here, tt)

pub map-more : {X Y : Type 0} (view : X → Y) (xs : List X) (x : X) → map view (xs ++ x ∷ []) ≡ map view xs ++ view x ∷ []
map-more view xs x = map-append view xs (x ∷ [])

-- the same of what a view shows of the items
pub each_more_viewed : {X Y : Type 0} (P : Y → Type 0) (view : X → Y) (xs : List X) (x : X)
    → AllByRecursion P (map view xs) → P (view x) → AllByRecursion P (map view (xs ++ x ∷ []))
each_more_viewed P view [] x each here = (here, tt)
each_more_viewed P view (y ∷ xs) x each here = (each.0, each_more_viewed P view xs x each.1 here)

below_or_at : (k n : ℕ) → k + 1 ≤ n → (k + 1 < n) ⊎ (k + 1 ≡ n)
below_or_at k n h = grind arith

-- ---- lists that ascend: where a loop comes to ever greater numbers, it keeps 'the list so far and the number that comes
-- next ascend'

pub ascends_first : (next : ℕ) → IsStrictlyIncreasing ([] ++ next ∷ [])
ascends_first next = λ k h. absurd (omega arith)

-- the next number was taken, and a greater one comes next
pub ascends_taken : (xs : List ℕ) (number next : ℕ) → IsStrictlyIncreasing (xs ++ number ∷ []) → number < next → IsStrictlyIncreasing ((xs ++ number ∷ []) ++ next ∷ [])
ascends_taken xs number next ascends above = grind (arith, common_steps)

-- the list without the number that comes next
pub ascends_ended : (xs : List ℕ) (next : ℕ) → IsStrictlyIncreasing (xs ++ next ∷ []) → IsStrictlyIncreasing xs
ascends_ended xs next ascends = λ k h.
    let lower : k < length xs = omega arith in
    let below = ascends k (omega (arith, length-append xs (next ∷ []))) in
    rw (get_or-append xs (next ∷ []) 0 k lower, get_or-append xs (next ∷ []) 0 (k + 1) h) at below

-- each number so far is below the one that comes next
last_below : (xs : List ℕ) (next k : ℕ) → IsStrictlyIncreasing (xs ++ next ∷ []) → k + 1 ≡ length xs → get_or xs k 0 < next
last_below xs next k ascends last =
    let lower : k < length xs = omega arith in
    let below = ascends k (omega (arith, length-append xs (next ∷ []))) in
    rw (get_or-append xs (next ∷ []) 0 k lower, get_or_push xs next 0 (k + 1) (omega arith)) at below

-- the next number was passed over
pub ascends_passed : (xs : List ℕ) (number next : ℕ) → IsStrictlyIncreasing (xs ++ number ∷ []) → number ≤ next → IsStrictlyIncreasing (xs ++ next ∷ [])
ascends_passed xs number next ascends above = λ k h.
    elim (below_or_at k (length xs) (omega (arith, length-append xs (next ∷ []), h))) [
      | inl inside ↦
          let lower : k < length xs = omega arith in
          rw (get_or-append xs (next ∷ []) 0 k lower, get_or-append xs (next ∷ []) 0 (k + 1) inside) (ascends_ended xs number ascends k inside)
      | inr last ↦
          let lower : k < length xs = omega arith in
          let below = last_below xs number k ascends last in
          rw (get_or-append xs (next ∷ []) 0 k lower, get_or_push xs next 0 (k + 1) (omega arith)) (omega arith)
    ]

-- where each item and the next are in order by their numbers, the numbers ascend
pub adjacent_ascend : {X : Type 0} (number : X → ℕ) (xs : List X)
    → AllAdjacentBelow (λ x y. true ≡ nat_lt (number x) (number y)) xs (length xs) → IsStrictlyIncreasing (map number xs)
adjacent_ascend number [] each = λ k h. absurd (omega arith)
adjacent_ascend number (x ∷ xs) each = λ k h.
    let ys = x ∷ xs in
    let inside : k + 1 < length ys = omega (arith, length-map ys number, h) in
    let here : get_or (map number ys) k 0 ≡ number (get_or ys k x) = get_or-map number ys k x 0 (omega arith) in
    let next : get_or (map number ys) (k + 1) 0 ≡ number (get_or ys (k + 1) x) = get_or-map number ys (k + 1) x 0 inside in
    let above : number (get_or ys k x) < number (get_or ys (k + 1) x) = ltb-true (number (get_or ys k x)) (number (get_or ys (k + 1) x)) (sym (each k x inside)) in
    omega (arith, here, next, above)
