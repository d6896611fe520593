-- How many calls of a plan have a turn before one.
use Rattle.std.proofs.Common.{◌≡◌, ℕ, zero, suc, ◌+◌, ◌-◌, ◌<◌, ◌≤◌, cond, List, [], ◌∷◌, length, vec_len, get_or, take, drop, map, sym, ap, ◌∙◌, refl, ⊎_elim, arith}
use Rattle.std.proofs.lemmas.Bool.{lt-ltb, le-ltb, cases_lt, cond-true, cond-false}
use Rattle.std.proofs.lemmas.List.{get_or-drop, get_or-take, length-drop, length-map, length-take}
use Rattle.std.proofs.lemmas.List.Sums.{sum_by-cons, count_by-le-length}
use Rattle.std.proofs.lemmas.List.Sorted.{sum_by-IsPermutation, length_permutation, All-permutation}
use Rattle.std.specs.Prelude.{count_by, nat_lt}
use Rattle.std.specs.List.{All}
use Rattle.std.specs.List.Sorted.{IsNonDecreasingBy, IsPermutation}
use Rattle.core_tree.specs.declared.scene.BoundCall.{BoundCall}
use Rattle.stack_machine.specs.declared.plan.PlannedCall.{PlannedCall}
use Rattle.stack_machine.specs.Plans.{ArePlanned, HasBegun, calls_before, planned_before}
use Rattle.stack_machine.specs.declared.world.World.{World}
use Rattle.stack_machine.specs.Standing.{IsFresh}
use Rattle.stack_machine.proofs.Standings.{nobody_stands}

-- how many elements have a number before this one
abbrev pub count_before : {X : Type 0} → (X → ℕ) → ℕ → List X → ℕ
count_before n turn xs = count_by (λ x. nat_lt (n x) turn) xs

before_yes : {X : Type 0} (n : X → ℕ) (turn : ℕ) (x : X) (xs : List X) → n x < turn → count_before n turn (x ∷ xs) ≡ 1 + count_before n turn xs
before_yes n turn x xs h =
    sum_by-cons (λ x. cond (nat_lt (n x) turn) 1 0) x xs
    ∙ ap (λ (k : ℕ). k + count_before n turn xs) (cond-true (nat_lt (n x) turn) 1 0 (lt-ltb (n x) turn h))

before_no : {X : Type 0} (n : X → ℕ) (turn : ℕ) (x : X) (xs : List X) → turn ≤ n x → count_before n turn (x ∷ xs) ≡ count_before n turn xs
before_no n turn x xs h =
    let none : 0 + count_before n turn xs ≡ count_before n turn xs = omega arith in
    sum_by-cons (λ x. cond (nat_lt (n x) turn) 1 0) x xs
    ∙ ap (λ (k : ℕ). k + count_before n turn xs) (cond-false (nat_lt (n x) turn) 1 0 (le-ltb (n x) turn h))
    ∙ none

-- nothing is before the first turn
pub before_first : {X : Type 0} (n : X → ℕ) (xs : List X) → count_before n 0 xs ≡ 0
before_first n [] = refl
before_first n (x ∷ xs) = before_no n 0 x xs (omega arith) ∙ before_first n xs

-- what is before a turn is before the next one
pub before_next : {X : Type 0} (n : X → ℕ) (turn : ℕ) (xs : List X) → count_before n turn xs ≤ count_before n (turn + 1) xs
before_next n turn [] = omega arith
before_next n turn (x ∷ xs) =
    ⊎_elim
    (λ (below : n x < turn). omega (arith, before_yes n turn x xs below, before_yes n (turn + 1) x xs (omega arith), before_next n turn xs))
    (λ (above : turn ≤ n x). ⊎_elim
    (λ (here : n x < turn + 1). omega (arith, before_no n turn x xs above, before_yes n (turn + 1) x xs here, before_next n turn xs))
    (λ (past : turn + 1 ≤ n x). omega (arith, before_no n turn x xs above, before_no n (turn + 1) x xs past, before_next n turn xs))
    (cases_lt (n x) (turn + 1)))
    (cases_lt (n x) turn)

-- ---- elements in order
rest_in_order : {X : Type 0} (n : X → ℕ) (x : X) (xs : List X) → IsNonDecreasingBy n (x ∷ xs) → IsNonDecreasingBy n xs
rest_in_order n x xs up = λ i j d le lt. up (suc i) (suc j) d (omega arith) (omega arith)

-- a place whose element is before the turn is before as many as are
pub place_within : {X : Type 0} (n : X → ℕ) (turn place : ℕ) (d : X) (xs : List X) → IsNonDecreasingBy n xs → place < length xs → n (get_or xs place d) < turn → place < count_before n turn xs
place_within n turn place d [] up within before = absurd (omega arith)
place_within n turn zero d (x ∷ xs) up within before = omega (arith, before_yes n turn x xs before)
place_within n turn (suc place) d (x ∷ xs) up within before =
    let first : n x ≤ n (get_or xs place d) = up 0 (suc place) d (omega arith) within in
    omega (arith, before_yes n turn x xs (omega arith), place_within n turn place d xs (rest_in_order n x xs up) (omega arith) before)

before_none : {X : Type 0} (n : X → ℕ) (turn : ℕ) (x : X) (xs : List X) → IsNonDecreasingBy n (x ∷ xs) → turn ≤ n x → count_before n turn xs ≡ 0
before_none n turn x [] up past = refl
before_none n turn x (y ∷ ys) up past =
    let next : n x ≤ n y = up 0 1 x (omega arith) (omega arith) in
    before_no n turn y ys (omega arith) ∙ before_none n turn y ys (rest_in_order n x (y ∷ ys) up) (omega arith)

-- and one whose element isn't is behind them
pub place_past : {X : Type 0} (n : X → ℕ) (turn place : ℕ) (d : X) (xs : List X) → IsNonDecreasingBy n xs → place < length xs → turn ≤ n (get_or xs place d) → count_before n turn xs ≤ place
place_past n turn place d [] up within past = absurd (omega arith)
place_past n turn zero d (x ∷ xs) up within past = omega (arith, before_no n turn x xs past, before_none n turn x xs up past)
place_past n turn (suc place) d (x ∷ xs) up within past =
    ⊎_elim
    (λ (below : n x < turn). omega (arith, before_yes n turn x xs below, place_past n turn place d xs (rest_in_order n x xs up) (omega arith) past))
    (λ (above : turn ≤ n x). omega (arith, before_no n turn x xs above, place_past n turn place d xs (rest_in_order n x xs up) (omega arith) past))
    (cases_lt (n x) turn)

-- ---- the same numbers
numbers_alone : {X : Type 0} (n : X → ℕ) (turn : ℕ) (xs : List X) → count_before n turn xs ≡ count_before (λ k. k) turn (map n xs)
numbers_alone n turn [] = refl
numbers_alone n turn (x ∷ xs) =
    ⊎_elim
    (λ (below : n x < turn). before_yes n turn x xs below ∙ ap (λ (k : ℕ). 1 + k) (numbers_alone n turn xs) ∙ sym (before_yes (λ k. k) turn (n x) (map n xs) below))
    (λ (above : turn ≤ n x). before_no n turn x xs above ∙ numbers_alone n turn xs ∙ sym (before_no (λ k. k) turn (n x) (map n xs) above))
    (cases_lt (n x) turn)

same_before : {X Y : Type 0} (n : X → ℕ) (m : Y → ℕ) (turn : ℕ) (xs : List X) (ys : List Y) → map n xs ≡ map m ys → count_before n turn xs ≡ count_before m turn ys
same_before n m turn xs ys e =
    numbers_alone n turn xs ∙ ap (count_before (λ k. k) turn) e ∙ sym (numbers_alone m turn ys)

-- the calls with their turns, in any order and then in that of their turns
pub are_planned : (listed planned : List PlannedCall) (calls : List BoundCall) → map (λ (call : PlannedCall). call.turn) listed ≡ map (λ (call : BoundCall). call.turn) calls → All (λ (call : PlannedCall). call.number < length calls) listed → IsPermutation listed planned → IsNonDecreasingBy (λ (call : PlannedCall). call.turn) planned → ArePlanned planned calls
are_planned listed planned calls same numbers moved up =
    record {
      in_order = up;
      numbers = All-permutation (λ call. call.number < length calls) listed planned moved numbers;
      turns = λ turn. sum_by-IsPermutation (λ call. cond (nat_lt call.turn turn) 1 0) listed planned moved ∙ same_before (λ call. call.turn) (λ call. call.turn) turn listed calls same;
      many = length_permutation listed planned moved ∙ sym (length-map listed (λ call. call.turn)) ∙ ap length same ∙ length-map calls (λ call. call.turn);
    }

-- ---- the stacks that start in a turn
pub few_at_first : (planned : List PlannedCall) (calls : List BoundCall) (world : World) (turn : ℕ) → HasBegun planned calls world turn → vec_len world.stacks ≤ planned_before (turn + 1) planned
few_at_first planned calls world turn begun =
    omega (arith, begun.started, begun.calls_planned.turns turn, before_next (λ (call : PlannedCall). call.turn) turn planned)

pub one_starts : (planned : List PlannedCall) (calls : List BoundCall) (turn place : ℕ) (d : PlannedCall) → ArePlanned planned calls → place < length planned → (get_or planned place d).turn ≤ turn → place + 1 ≤ planned_before (turn + 1) planned
one_starts planned calls turn place d are within at =
    omega (arith, place_within (λ (call : PlannedCall). call.turn) (turn + 1) place d planned are.in_order within (omega (arith, at)))

pub next_is_later : (planned : List PlannedCall) (calls : List BoundCall) (turn place : ℕ) (d : PlannedCall) → ArePlanned planned calls → place < length planned → turn < (get_or planned place d).turn → place ≤ planned_before (turn + 1) planned → place ≡ calls_before (turn + 1) calls
next_is_later planned calls turn place d are within later few =
    omega (arith, few, are.turns (turn + 1), place_past (λ (call : PlannedCall). call.turn) (turn + 1) place d planned are.in_order within (omega (arith, later)))

pub none_is_left : (planned : List PlannedCall) (calls : List BoundCall) (turn place : ℕ) → ArePlanned planned calls → length planned ≤ place → place ≤ planned_before (turn + 1) planned → place ≡ calls_before (turn + 1) calls
none_is_left planned calls turn place are past few =
    omega (arith, past, few, are.turns (turn + 1), count_by-le-length (λ (call : PlannedCall). nat_lt call.turn (turn + 1)) planned)

-- the calls from a place on
abbrev pub from_place : ℕ → List PlannedCall → List PlannedCall
from_place first calls = take (length calls - first) (drop first calls)

pub left_within : (read planned : List PlannedCall) (first index : ℕ) → read ≡ planned → index < length (from_place first read) → first + index < length planned
left_within read planned first index same within =
    omega (arith, within, ap length same, length-take (length read - first) (drop first read), length-drop first read)

pub left_at : (read planned : List PlannedCall) (first index : ℕ) (d : PlannedCall) → read ≡ planned → index < length (from_place first read) → get_or (from_place first read) index d ≡ get_or planned (first + index) d
left_at read planned first index d same within =
    get_or-take (length read - first) (drop first read) index d (omega (arith, within, length-take (length read - first) (drop first read), length-drop first read))
    ∙ get_or-drop first read index d
    ∙ ap (λ (calls : List PlannedCall). get_or calls (first + index) d) same

pub left_past : (read planned : List PlannedCall) (first index : ℕ) → read ≡ planned → first ≤ length planned → length (from_place first read) ≤ index → length planned ≤ first + index
left_past read planned first index same within past =
    omega (arith, within, past, ap length same, length-take (length read - first) (drop first read), length-drop first read)

-- before the first turn no stack has started
pub begun_at_first : (planned : List PlannedCall) (calls : List BoundCall) (world : World) (instances room : ℕ) → ArePlanned planned calls → IsFresh instances room world → room ≡ length calls → length calls < 65536 → HasBegun planned calls world 0
begun_at_first planned calls world instances room are fresh same few = record {
  calls_planned = are;
  few = few;
  room = fresh.nobody.room_is ∙ same;
  started = fresh.stacks ∙ sym (before_first (λ (call : BoundCall). call.turn) calls);
  stands = nobody_stands instances room (vec_len world.stacks) world.last world.places fresh.nobody fresh.stacks fresh.last;
}
