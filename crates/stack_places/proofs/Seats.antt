-- The owners of instances after one seat changed, and how often a stack owns one.
use Rattle.std.proofs.Common.{◌≡◌, ◌≢◌, ℕ, zero, suc, ◌+◌, ◌<◌, ◌≤◌, Bool, true, false, not, cond, List, [], ◌∷◌, ◌++◌, length, Option, Some, None, is_some, ◌||◌, refl, sym, ap, subst, ◌∙◌, arith}
use Rattle.std.specs.Prelude.{slice_set, position}
use Rattle.std.specs.List.{filter, list_any, position_from}
use Rattle.std.specs.Option.{option_map}
use Rattle.std.proofs.lemmas.Bool.{eqb-true, eqb-false}
use Rattle.std.proofs.lemmas.Iterator.Adapters.{position_from-zero}
use Rattle.std.proofs.Math.Dec.{eqb}
use Rattle.std.proofs.lemmas.Bool.Decides.{nat_tests}
use Rattle.lock_queue.specs.declared.seat.Seat.{Seat}
use Rattle.lock_queue.specs.declared.seat.Seat.TheVariants.{Resting, Free, Waits, Holds}
use Rattle.lock_queue.specs.LockTable.{held_by, holds, seat_at}
use Rattle.run_laws.specs.Exclusive.{how_many}
use Rattle.script_meaning.specs.Locks.{second_is, second_is_other, stack_of, waited_for, with_pair}
use Rattle.stack_places.specs.Lists.{pair_of, owners_from}
use Rattle.stack_places.proofs.Numbers.{itself, none_and, over, pair_first, pair_later, under}

-- ---- the place of a holder
abbrev pub place : ℕ → List Seat → Option ℕ
place i seats = position_from (holds i) 0 seats

pub by_place : (i : ℕ) (seats : List Seat) → position (holds i) seats ≡ place i seats
by_place i seats = position_from-zero (holds i) seats

step_by : (here : Bool) (i j : ℕ) (o p : Option ℕ) → j ≡ suc i → p ≡ option_map (λ n. suc n) o → cond here (Some j) p ≡ option_map (λ n. suc n) (cond here (Some i) o)
step_by true i j o p e f = ap (λ n. Some n) e
step_by false i j o p e f = f

further : {X : Type 0} (test : X → Bool) (i j : ℕ) (xs : List X) → j ≡ suc i → position_from test j xs ≡ option_map (λ n. suc n) (position_from test i xs)
further test i j [] e = refl
further test i j (x ∷ xs) e =
    let next : j + 1 ≡ suc (i + 1) = omega (arith, e) in
    step_by (test x) i j (position_from test (i + 1) xs) (position_from test (j + 1) xs) e (further test (i + 1) (j + 1) xs next)

cons_place : (i : ℕ) (seat : Seat) (seats : List Seat) → place i (seat ∷ seats) ≡ cond (holds i seat) (Some 0) (option_map (λ n. suc n) (place i seats))
cons_place i seat seats = ap (λ o. cond (holds i seat) (Some 0) o) (further (holds i) 0 1 seats refl)

pub idle : (i : ℕ) (seat : Seat) → held_by seat ≡ None → holds i seat ≡ false
idle i Resting h = refl
idle i Free h = refl
idle i (Waits n) h = refl
idle i (Holds n) h = absurd (cc)

-- a seat that doesn't hold an instance takes the place of one that doesn't
pub stays : (i k : ℕ) (s : Seat) (seats : List Seat) → holds i s ≡ false → holds i (seat_at seats k) ≡ false → place i (slice_set seats k s) ≡ place i seats
stays i k s [] e h = refl
stays i zero s (seat ∷ seats) e h =
    cons_place i s seats ∙ (ap (λ t. cond t (Some 0) (option_map (λ n. suc n) (place i seats))) (e ∙ sym h) ∙ sym (cons_place i seat seats))
stays i (suc k) s (seat ∷ seats) e h =
    cons_place i seat (slice_set seats k s) ∙ (ap (λ o. cond (holds i seat) (Some 0) (option_map (λ n. suc n) o)) (stays i k s seats e h) ∙ sym (cons_place i seat seats))

none_by : (here : Bool) (o : Option ℕ) → cond here (Some 0) (option_map (λ n. suc n) o) ≡ None → (here ≡ false) × (o ≡ None)
none_by true o e = absurd (cc)
none_by false None e = (refl, refl)
none_by false (Some n) e = absurd (cc)

own_place : (j k : ℕ) (seats : List Seat) → k < length seats → place j seats ≡ None → place j (slice_set seats k (Holds j)) ≡ Some k
own_place j k [] h e = absurd (omega (arith, h))
own_place j zero (seat ∷ seats) h e =
    cons_place j (Holds j) seats ∙ ap (λ t. cond t (Some 0) (option_map (λ n. suc n) (place j seats))) (itself j)
own_place j (suc k) (seat ∷ seats) h e =
    let within : k < length seats = omega (arith, h) in
    let nowhere = none_by (holds j seat) (place j seats) (sym (cons_place j seat seats) ∙ e) in
    cons_place j seat (slice_set seats k (Holds j)) ∙ (ap (λ t. cond t (Some 0) (option_map (λ n. suc n) (place j (slice_set seats k (Holds j))))) nowhere.0 ∙ ap (option_map (λ n. suc n)) (own_place j k seats within nowhere.1))

pub nowhere : (i : ℕ) (seats : List Seat) → ((m : ℕ) → holds i (seat_at seats m) ≡ false) → place i seats ≡ None
nowhere i [] h = refl
nowhere i (seat ∷ seats) h =
    cons_place i seat seats ∙ (ap (λ t. cond t (Some 0) (option_map (λ n. suc n) (place i seats))) (h 0) ∙ ap (option_map (λ n. suc n)) (nowhere i seats (λ m. h (suc m))))

-- where an instance has a holder, that seat holds it
there_by : (i : ℕ) (seat : Seat) (seats : List Seat) (m : ℕ) (t : Bool) (o : Option ℕ) → holds i seat ≡ t → ((n : ℕ) → o ≡ Some n → holds i (seat_at seats n) ≡ true) → cond t (Some 0) (option_map (λ n. suc n) o) ≡ Some m → holds i (seat_at (seat ∷ seats) m) ≡ true
there_by i seat seats m true o h more e =
    let same : 0 ≡ m = cc in
    subst (λ x. holds i (seat_at (seat ∷ seats) x) ≡ true) same h
there_by i seat seats m false None h more e = absurd (cc)
there_by i seat seats m false (Some n) h more e =
    let same : suc n ≡ m = cc in
    subst (λ x. holds i (seat_at (seat ∷ seats) x) ≡ true) same (more n refl)

pub held_there : (i : ℕ) (seats : List Seat) (m : ℕ) → place i seats ≡ Some m → holds i (seat_at seats m) ≡ true
held_there i [] m e = absurd (cc)
held_there i (seat ∷ seats) m e =
    there_by i seat seats m (holds i seat) (place i seats) refl (held_there i seats) (sym (cons_place i seat seats) ∙ e)

-- ---- a stack takes an instance
above : (i left j k : ℕ) (seats : List Seat) → j < i → held_by (seat_at seats k) ≡ None → owners_from i left (slice_set seats k (Holds j)) ≡ owners_from i left seats
above i zero j k seats h e = refl
above i (suc left) j k seats h e =
    let later : j < suc i = omega (arith, h) in
    let here : position (holds i) (slice_set seats k (Holds j)) ≡ position (holds i) seats = by_place i (slice_set seats k (Holds j)) ∙ (stays i k (Holds j) seats (under j i h) (idle i (seat_at seats k) e) ∙ sym (by_place i seats)) in
    ap (λ o. pair_of i o ++ owners_from (suc i) left (slice_set seats k (Holds j))) here ∙ ap (λ ps. pair_of i (position (holds i) seats) ++ ps) (above (suc i) left j k seats later e)

goes_first : (i left j k : ℕ) (seats : List Seat) → j < i → with_pair (j, k) (owners_from i left seats) ≡ (j, k) ∷ owners_from i left seats
goes_first i zero j k seats h = refl
goes_first i (suc left) j k seats h =
    let later : j < suc i = omega (arith, h) in
    pair_first j k i (position (holds i) seats) (owners_from (suc i) left seats) h (goes_first (suc i) left j k seats later)

at_own : (i left j k : ℕ) (seats : List Seat) → i ≡ j → k < length seats → held_by (seat_at seats k) ≡ None → position (holds j) seats ≡ None → owners_from i (suc left) (slice_set seats k (Holds j)) ≡ with_pair (j, k) (owners_from i (suc left) seats)
at_own i left j k seats s h e n =
    let next : j < suc i = omega (arith, s) in
    let here : position (holds i) (slice_set seats k (Holds j)) ≡ Some k = ap (λ m. position (holds m) (slice_set seats k (Holds j))) s ∙ (by_place j (slice_set seats k (Holds j)) ∙ own_place j k seats h (sym (by_place j seats) ∙ n)) in
    let none : position (holds i) seats ≡ None = ap (λ m. position (holds m) seats) s ∙ n in
    ap (λ o. pair_of i o ++ owners_from (suc i) left (slice_set seats k (Holds j))) here ∙ (ap (λ m. (m, k) ∷ owners_from (suc i) left (slice_set seats k (Holds j))) s ∙ (ap (λ ps. (j, k) ∷ ps) (above (suc i) left j k seats next e) ∙ (sym (goes_first (suc i) left j k seats next) ∙ ap (λ o. with_pair (j, k) (pair_of i o ++ owners_from (suc i) left seats)) (sym none))))

at_other : (i left j k : ℕ) (seats : List Seat) → i < j → held_by (seat_at seats k) ≡ None → owners_from (suc i) left (slice_set seats k (Holds j)) ≡ with_pair (j, k) (owners_from (suc i) left seats) → owners_from i (suc left) (slice_set seats k (Holds j)) ≡ with_pair (j, k) (owners_from i (suc left) seats)
at_other i left j k seats after e more =
    let here : position (holds i) (slice_set seats k (Holds j)) ≡ position (holds i) seats = by_place i (slice_set seats k (Holds j)) ∙ (stays i k (Holds j) seats (over i j after) (idle i (seat_at seats k) e) ∙ sym (by_place i seats)) in
    ap (λ o. pair_of i o ++ owners_from (suc i) left (slice_set seats k (Holds j))) here ∙ pair_later j k i (position (holds i) seats) (owners_from (suc i) left seats) (owners_from (suc i) left (slice_set seats k (Holds j))) after more

pub taken : (i left j k : ℕ) (seats : List Seat) → i ≤ j → j < i + left → k < length seats → held_by (seat_at seats k) ≡ None → position (holds j) seats ≡ None → owners_from i left (slice_set seats k (Holds j)) ≡ with_pair (j, k) (owners_from i left seats)
taken i zero j k seats a b h e n = absurd (omega (arith, a, b))
taken i (suc left) j k seats a b h e n =
    elim (eqb i j) as (λ t. eqb i j ≡ t → owners_from i (suc left) (slice_set seats k (Holds j)) ≡ with_pair (j, k) (owners_from i (suc left) seats)) [
      | true ↦ λ t. at_own i left j k seats (eqb-true i j t) h e n
      | false ↦ λ t.
          let s : i ≢ j = eqb-false i j t in
          let after : i < j = omega (arith, s, a) in
          let most : j < suc i + left = omega (arith, b) in
          let least : suc i ≤ j = omega (arith, after) in
          at_other i left j k seats after e (taken (suc i) left j k seats least most h e n)
    ] refl

-- ---- a seat that holds nothing takes the place of one that holds nothing
pub unheld : (i left k : ℕ) (s : Seat) (seats : List Seat) → held_by s ≡ None → held_by (seat_at seats k) ≡ None → owners_from i left (slice_set seats k s) ≡ owners_from i left seats
unheld i zero k s seats a b = refl
unheld i (suc left) k s seats a b =
    let here : position (holds i) (slice_set seats k s) ≡ position (holds i) seats = by_place i (slice_set seats k s) ∙ (stays i k s seats (idle i s a) (idle i (seat_at seats k) b) ∙ sym (by_place i seats)) in
    ap (λ o. pair_of i o ++ owners_from (suc i) left (slice_set seats k s)) here ∙ ap (λ ps. pair_of i (position (holds i) seats) ++ ps) (unheld (suc i) left k s seats a b)

-- ---- a stack releases what it holds
-- no other seat holds what this one holds
abbrev pub HoldsAlone : ℕ → List Seat → Type 0
HoldsAlone k seats = (i m : ℕ) → holds i (seat_at seats k) ≡ true → holds i (seat_at seats m) ≡ true → m ≡ k

abbrev dropped : ℕ → Option ℕ → Option ℕ
dropped k None = None
dropped k (Some m) = cond (eqb m k) None (Some m)

dropped_zero : (o : Option ℕ) → dropped 0 (option_map (λ n. suc n) o) ≡ option_map (λ n. suc n) o
dropped_zero None = refl
dropped_zero (Some n) =
    let off : eqb (suc n) 0 ≡ false = grind (arith, nat_tests) in
    ap (λ t. cond t None (Some (suc n))) off

dropped_suc : (k : ℕ) (o : Option ℕ) → dropped (suc k) (option_map (λ n. suc n) o) ≡ option_map (λ n. suc n) (dropped k o)
dropped_suc k None = refl
dropped_suc k (Some n) =
    suc_by (eqb n k) ∙ refl where
      both : eqb (suc n) (suc k) ≡ eqb n k
      both = grind (arith, nat_tests)

      mapped : (t : Bool) → cond t None (Some (suc n)) ≡ option_map (λ n. suc n) (cond t None (Some n))
      mapped true = refl
      mapped false = refl

      suc_by : (t : Bool) → dropped (suc k) (Some (suc n)) ≡ option_map (λ n. suc n) (dropped k (Some n))
      suc_by t = ap (λ t. cond t None (Some (suc n))) both ∙ mapped (eqb n k)

first_released : (t : Bool) (i : ℕ) (seats : List Seat) → (t ≡ true → place i seats ≡ None) → option_map (λ n. suc n) (place i seats) ≡ dropped 0 (cond t (Some 0) (option_map (λ n. suc n) (place i seats)))
first_released true i seats h =
    let self : eqb 0 0 ≡ true = itself 0 in
    ap (option_map (λ n. suc n)) (h refl) ∙ sym (ap (λ t. cond t None (Some 0)) self)
first_released false i seats h = sym (dropped_zero (place i seats))

later_released : (t : Bool) (k : ℕ) (o p : Option ℕ) → p ≡ dropped k o → cond t (Some 0) (option_map (λ n. suc n) p) ≡ dropped (suc k) (cond t (Some 0) (option_map (λ n. suc n) o))
later_released true k o p e =
    let off : eqb 0 (suc k) ≡ false = grind (arith, nat_tests) in
    sym (ap (λ t. cond t None (Some 0)) off)
later_released false k o p e = ap (option_map (λ n. suc n)) e ∙ sym (dropped_suc k o)

not_held : (t : Bool) → (t ≡ true → ⊥) → t ≡ false
not_held true h = absurd (h refl)
not_held false h = refl

place_released : (i k : ℕ) (s : Seat) (seats : List Seat) → holds i s ≡ false → HoldsAlone k seats → place i (slice_set seats k s) ≡ dropped k (place i seats)
place_released i k s [] e alone = refl
place_released i zero s (seat ∷ seats) e alone =
    cons_place i s seats ∙ (ap (λ t. cond t (Some 0) (option_map (λ n. suc n) (place i seats))) e ∙ (first_released (holds i seat) i seats (λ t. nowhere i seats (λ m. not_held (holds i (seat_at seats m)) (λ h. let same = alone i (suc m) t h in absurd (omega (arith, same))))) ∙ sym (ap (dropped 0) (cons_place i seat seats))))
place_released i (suc k) s (seat ∷ seats) e alone =
    let rest : HoldsAlone k seats = λ n m a b. let same = alone n (suc m) a b in omega (arith, same) in
    cons_place i seat (slice_set seats k s) ∙ (later_released (holds i seat) k (place i seats) (place i (slice_set seats k s)) (place_released i k s seats e rest) ∙ sym (ap (dropped (suc k)) (cons_place i seat seats)))

filtered : (i k : ℕ) (o : Option ℕ) (rest : List (ℕ × ℕ)) → filter (second_is_other k) (pair_of i o ++ rest) ≡ pair_of i (dropped k o) ++ filter (second_is_other k) rest
filtered i k None rest = refl
filtered i k (Some m) rest = filtered_by (eqb m k) where
  filtered_by : (t : Bool) → cond (not t) ((i, m) ∷ filter (second_is_other k) rest) (filter (second_is_other k) rest) ≡ pair_of i (cond t None (Some m)) ++ filter (second_is_other k) rest
  filtered_by true = refl
  filtered_by false = refl

pub released : (i left k : ℕ) (s : Seat) (seats : List Seat) → held_by s ≡ None → HoldsAlone k seats → owners_from i left (slice_set seats k s) ≡ filter (second_is_other k) (owners_from i left seats)
released i zero k s seats e alone = refl
released i (suc left) k s seats e alone =
    let here : position (holds i) (slice_set seats k s) ≡ dropped k (position (holds i) seats) = by_place i (slice_set seats k s) ∙ (place_released i k s seats (idle i s e) alone ∙ sym (ap (dropped k) (by_place i seats))) in
    ap (λ o. pair_of i o ++ owners_from (suc i) left (slice_set seats k s)) here ∙ (ap (λ ps. pair_of i (dropped k (position (holds i) seats)) ++ ps) (released (suc i) left k s seats e alone) ∙ sym (filtered i k (position (holds i) seats) (owners_from (suc i) left seats)))

-- ---- how often a stack owns something
off_by : (k i : ℕ) (o : Option ℕ) (rest : List (ℕ × ℕ)) → (o ≡ Some k → ⊥) → how_many (second_is k) (pair_of i o ++ rest) ≡ how_many (second_is k) rest
off_by k i None rest h = refl
off_by k i (Some m) rest h =
    off_cases (eqb m k) refl where
      off_cases : (t : Bool) → eqb m k ≡ t → how_many (second_is k) ((i, m) ∷ rest) ≡ how_many (second_is k) rest
      off_cases true e = absurd (h (ap (λ n. Some n) (eqb-true m k e)))
      off_cases false e = ap (λ t. cond t 1 0 + how_many (second_is k) rest) e ∙ none_and (how_many (second_is k) rest)

held_nowhere : (k i : ℕ) (seats : List Seat) → held_by (seat_at seats k) ≡ None → position (holds i) seats ≡ Some k → ⊥
held_nowhere k i seats h e =
    let here = held_there i seats k (sym (by_place i seats) ∙ e) in
    let none = idle i (seat_at seats k) h in
    absurd (let both : true ≡ false = sym here ∙ none in cc)

pub owns_none : (i left k : ℕ) (seats : List Seat) → held_by (seat_at seats k) ≡ None → how_many (second_is k) (owners_from i left seats) ≡ 0
owns_none i zero k seats h = refl
owns_none i (suc left) k seats h =
    off_by k i (position (holds i) seats) (owners_from (suc i) left seats) (held_nowhere k i seats h) ∙ owns_none (suc i) left k seats h

more : (k : ℕ) (xs ys : List (ℕ × ℕ)) → 1 ≤ how_many (second_is k) ys → 1 ≤ how_many (second_is k) (xs ++ ys)
more k [] ys h = h
more k (x ∷ xs) ys h =
    let rest = more k xs ys h in
    omega (arith, rest)

pub owns_some : (i left j k : ℕ) (seats : List Seat) → i ≤ j → j < i + left → position (holds j) seats ≡ Some k → 1 ≤ how_many (second_is k) (owners_from i left seats)
owns_some i zero j k seats a b h = absurd (omega (arith, a, b))
owns_some i (suc left) j k seats a b h =
    owns_by (eqb i j) refl (owns_some (suc i) left j k seats) where
      owns_by : (t : Bool) → eqb i j ≡ t → (suc i ≤ j → j < suc i + left → position (holds j) seats ≡ Some k → 1 ≤ how_many (second_is k) (owners_from (suc i) left seats)) → 1 ≤ how_many (second_is k) (owners_from i (suc left) seats)
      owns_by true e further_on =
          let here : position (holds i) seats ≡ Some k = ap (λ n. position (holds n) seats) (eqb-true i j e) ∙ h in
          let counted : how_many (second_is k) (owners_from i (suc left) seats) ≡ 1 + how_many (second_is k) (owners_from (suc i) left seats) = ap (λ o. how_many (second_is k) (pair_of i o ++ owners_from (suc i) left seats)) here ∙ ap (λ t. cond t 1 0 + how_many (second_is k) (owners_from (suc i) left seats)) (itself k) in
          omega (arith, counted)
      owns_by false e further_on =
          let s : i ≢ j = eqb-false i j e in
          let least : suc i ≤ j = omega (arith, s, a) in
          let most : j < suc i + left = omega (arith, b) in
          more k (pair_of i (position (holds i) seats)) (owners_from (suc i) left seats) (further_on least most h)

-- ---- which instances are owned
abbrev pub first_here : ℕ → ℕ × ℕ → Bool
first_here i pair = eqb pair.0 i

any_past : (n i : ℕ) (o : Option ℕ) (rest : List (ℕ × ℕ)) → eqb i n ≡ false → list_any (first_here n) (pair_of i o ++ rest) ≡ list_any (first_here n) rest
any_past n i None rest h = refl
any_past n i (Some m) rest h = ap (λ t. t || list_any (first_here n) rest) h

none_above : (n i left : ℕ) (seats : List Seat) → n < i → list_any (first_here n) (owners_from i left seats) ≡ false
none_above n i zero seats h = refl
none_above n i (suc left) seats h =
    let later : n < suc i = omega (arith, h) in
    any_past n i (position (holds i) seats) (owners_from (suc i) left seats) (over n i h) ∙ none_above n (suc i) left seats later

any_here : (n : ℕ) (o : Option ℕ) (rest : List (ℕ × ℕ)) → list_any (first_here n) rest ≡ false → list_any (first_here n) (pair_of n o ++ rest) ≡ is_some o
any_here n None rest h = h
any_here n (Some m) rest h = ap (λ t. t || list_any (first_here n) rest) (itself n)

pub owned : (n i left : ℕ) (seats : List Seat) → i ≤ n → n < i + left → list_any (first_here n) (owners_from i left seats) ≡ is_some (position (holds n) seats)
owned n i zero seats a b = absurd (omega (arith, a, b))
owned n i (suc left) seats a b =
    owned_by (eqb i n) refl (owned n (suc i) left seats) where
      owned_by : (t : Bool) → eqb i n ≡ t → (suc i ≤ n → n < suc i + left → list_any (first_here n) (owners_from (suc i) left seats) ≡ is_some (position (holds n) seats)) → list_any (first_here n) (owners_from i (suc left) seats) ≡ is_some (position (holds n) seats)
      owned_by true e further_on =
          let same : i ≡ n = eqb-true i n e in
          let next : n < suc i = omega (arith, same) in
          subst (λ m. list_any (first_here n) (pair_of m (position (holds m) seats) ++ owners_from (suc i) left seats) ≡ is_some (position (holds n) seats)) (sym same) (any_here n (position (holds n) seats) (owners_from (suc i) left seats) (none_above n (suc i) left seats next))
      owned_by false e further_on =
          let s : i ≢ n = eqb-false i n e in
          let least : suc i ≤ n = omega (arith, s, a) in
          let most : n < suc i + left = omega (arith, b) in
          any_past n i (position (holds i) seats) (owners_from (suc i) left seats) e ∙ further_on least most

-- ---- who owns an instance, and what a stack owns
past_first : (n i : ℕ) (o : Option ℕ) (rest : List (ℕ × ℕ)) → eqb i n ≡ false → stack_of (pair_of i o ++ rest) n ≡ stack_of rest n
past_first n i None rest h = refl
past_first n i (Some m) rest h = ap (λ t. cond t (Some m) (stack_of rest n)) h

no_first : (n i left : ℕ) (seats : List Seat) → n < i → stack_of (owners_from i left seats) n ≡ None
no_first n i zero seats h = refl
no_first n i (suc left) seats h =
    let later : n < suc i = omega (arith, h) in
    past_first n i (position (holds i) seats) (owners_from (suc i) left seats) (over n i h) ∙ no_first n (suc i) left seats later

at_first : (n : ℕ) (o : Option ℕ) (rest : List (ℕ × ℕ)) → stack_of rest n ≡ None → stack_of (pair_of n o ++ rest) n ≡ o
at_first n None rest h = h
at_first n (Some m) rest h = ap (λ t. cond t (Some m) (stack_of rest n)) (itself n)

pub owner_there : (n i left : ℕ) (seats : List Seat) → i ≤ n → n < i + left → stack_of (owners_from i left seats) n ≡ position (holds n) seats
owner_there n i zero seats a b = absurd (omega (arith, a, b))
owner_there n i (suc left) seats a b =
    there_at (eqb i n) refl (owner_there n (suc i) left seats) where
      there_at : (t : Bool) → eqb i n ≡ t → (suc i ≤ n → n < suc i + left → stack_of (owners_from (suc i) left seats) n ≡ position (holds n) seats) → stack_of (owners_from i (suc left) seats) n ≡ position (holds n) seats
      there_at true e further_on =
          let same : i ≡ n = eqb-true i n e in
          let next : n < suc i = omega (arith, same) in
          subst (λ m. stack_of (pair_of m (position (holds m) seats) ++ owners_from (suc i) left seats) n ≡ position (holds n) seats) (sym same) (at_first n (position (holds n) seats) (owners_from (suc i) left seats) (no_first n (suc i) left seats next))
      there_at false e further_on =
          let s : i ≢ n = eqb-false i n e in
          let least : suc i ≤ n = omega (arith, s, a) in
          let most : n < suc i + left = omega (arith, b) in
          past_first n i (position (holds i) seats) (owners_from (suc i) left seats) e ∙ further_on least most

past_second : (k i : ℕ) (o : Option ℕ) (rest : List (ℕ × ℕ)) → (o ≡ Some k → ⊥) → waited_for k (pair_of i o ++ rest) ≡ waited_for k rest
past_second k i None rest h = refl
past_second k i (Some m) rest h = past_by (eqb m k) refl where
  past_by : (t : Bool) → eqb m k ≡ t → waited_for k ((i, m) ∷ rest) ≡ waited_for k rest
  past_by true e = absurd (h (ap (λ n. Some n) (eqb-true m k e)))
  past_by false e = ap (λ t. cond t (Some i) (waited_for k rest)) e

pub owns_nothing : (i left k : ℕ) (seats : List Seat) → held_by (seat_at seats k) ≡ None → waited_for k (owners_from i left seats) ≡ None
owns_nothing i zero k seats h = refl
owns_nothing i (suc left) k seats h =
    past_second k i (position (holds i) seats) (owners_from (suc i) left seats) (held_nowhere k i seats h) ∙ owns_nothing (suc i) left k seats h

same_number : (n j : ℕ) → Holds n ≡ Holds j → n ≡ j
same_number n j e = cc

held_only : (k i j : ℕ) (seats : List Seat) → seat_at seats k ≡ Holds j → eqb i j ≡ false → position (holds i) seats ≡ Some k → ⊥
held_only k i j seats h off e =
    let here : holds i (seat_at seats k) ≡ true = held_there i seats k (sym (by_place i seats) ∙ e) in
    let other : holds i (Holds j) ≡ true = sym (ap (holds i) h) ∙ here in
    let same : j ≡ i = eqb-true j i other in
    eqb-false i j off (sym same)

pub owns_this : (i left j k : ℕ) (seats : List Seat) → i ≤ j → j < i + left → seat_at seats k ≡ Holds j → position (holds j) seats ≡ Some k → waited_for k (owners_from i left seats) ≡ Some j
owns_this i zero j k seats a b s h = absurd (omega (arith, a, b))
owns_this i (suc left) j k seats a b s h =
    this_by (eqb i j) refl (owns_this (suc i) left j k seats) where
      this_by : (t : Bool) → eqb i j ≡ t → (suc i ≤ j → j < suc i + left → seat_at seats k ≡ Holds j → position (holds j) seats ≡ Some k → waited_for k (owners_from (suc i) left seats) ≡ Some j) → waited_for k (owners_from i (suc left) seats) ≡ Some j
      this_by true e further_on =
          let same = eqb-true i j e in
          let here : position (holds i) seats ≡ Some k = ap (λ n. position (holds n) seats) same ∙ h in
          ap (λ o. waited_for k (pair_of i o ++ owners_from (suc i) left seats)) here ∙ (ap (λ t. cond t (Some i) (waited_for k (owners_from (suc i) left seats))) (itself k) ∙ ap (λ n. Some n) same)
      this_by false e further_on =
          let apart : i ≢ j = eqb-false i j e in
          let least : suc i ≤ j = omega (arith, apart, a) in
          let most : j < suc i + left = omega (arith, b) in
          past_second k i (position (holds i) seats) (owners_from (suc i) left seats) (held_only k i j seats s e) ∙ further_on least most s h
