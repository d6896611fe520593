-- Where a stack stands by its seat, its sleep and whether it is done.
use Rattle.std.proofs.Common.{◌≡◌, ℕ, ◌+◌, ◌<◌, ◌≤◌, Bool, true, false, cond, ◌||◌, ◌&&◌, not, List, [], ◌∷◌, length, Option, Some, None, is_some, is_none, refl, sym, ap, ◌∙◌, arith, ◌⊎◌, inl, inr}
use Rattle.std.specs.Prelude.{slice_index_or}
use Rattle.std.specs.List.{list_any}
use Rattle.std.proofs.Math.Dec.{eqb}
use Rattle.std.proofs.lemmas.Bool.{eqb-true}
use Rattle.lock_queue.specs.declared.seat.Seat.{Seat}
use Rattle.lock_queue.specs.declared.seat.Seat.TheVariants.{Resting, Free, Waits, Holds}
use Rattle.lock_queue.specs.LockTable.{LockTable, held_by, holds, owner_of, pairs_if, pairs_of, seat_of, waits_for}
use Rattle.lock_queue.specs.LockTable as seats
use Rattle.run_laws.specs.Exclusive.{how_many, is_number}
use Rattle.run_laws.proofs.Counts.{same_or_not}
use Rattle.script_meaning.specs.Locks.{second_is, waited_for}
use Rattle.script_meaning.specs.World.{World}
use Rattle.stack_places.specs.Lists.{is_free, is_true, numbers_of, owners_from, pairs_from}
use Rattle.stack_places.specs.Places.{IsAway, Runs, is_zero, lists_of, standings}
use Rattle.stack_places.proofs.Numbers as numbers
use Rattle.stack_places.proofs.Seats.{HoldsAlone, owns_none, owns_nothing, owns_some, owns_this}
use Rattle.stack_places.proofs.Waiters as waiters

-- what every lock table keeps
pub record Agrees (locks : LockTable) : Type 0 where
  pub waiters : (k : ℕ) → pairs_of locks k ≡ pairs_if k (waits_for (seat_of locks k))
  pub owners : (k instance : ℕ) → seat_of locks k ≡ Holds instance → owner_of locks instance ≡ Some k
  pub held : (k instance : ℕ) → seat_of locks k ≡ Holds instance → instance < locks.instances
  pub awaited : (k instance : ℕ) → seat_of locks k ≡ Waits instance → instance < locks.instances

-- a world, for what holds of the lists of any
pub some_world : World
some_world =
    record { outline = []; turn = 0; last = None; started = 0; instances = []; owners = []; waiters = []; free = []; done = []; asleep = []; arrays = []; devices = []; output = [] }

-- ---- from counts to tests
pub some_there : {X : Type 0} (test : X → Bool) (xs : List X) → 1 ≤ how_many test xs → list_any test xs ≡ true
some_there test [] h = absurd (omega (arith, h))
some_there test (x ∷ xs) h = there_by (test x) h (some_there test xs) where
  there_by : (t : Bool) → 1 ≤ cond t 1 0 + how_many test xs → (1 ≤ how_many test xs → list_any test xs ≡ true) → t || list_any test xs ≡ true
  there_by true h more = refl
  there_by false h more = more (omega (arith, h))

pub none_there : {X : Type 0} (test : X → Bool) (xs : List X) → how_many test xs ≡ 0 → list_any test xs ≡ false
none_there test [] h = refl
none_there test (x ∷ xs) h = none_by (test x) h (none_there test xs) where
  none_by : (t : Bool) → cond t 1 0 + how_many test xs ≡ 0 → (how_many test xs ≡ 0 → list_any test xs ≡ false) → t || list_any test xs ≡ false
  none_by true h more = absurd (omega (arith, h))
  none_by false h more = more (omega (arith, h))

-- ---- how often a stack stands in each list, by its seat
module _ (locks : LockTable) (agrees : Agrees locks) (k : ℕ) where
  pub free_count : how_many (is_number k) (numbers_of is_free 0 locks.seats) ≡ cond (is_free (seat_of locks k)) 1 0
  free_count =
      let here : 0 + k ≡ k = omega arith in
      ap (λ n. how_many (is_number n) (numbers_of is_free 0 locks.seats)) (sym here) ∙ numbers.counted is_free Resting 0 k locks.seats refl

  pub waiter_count : how_many (second_is k) locks.waiters ≡ length (pairs_if k (waits_for (seat_of locks k)))
  waiter_count = waiters.counted_if k (waits_for (seat_of locks k)) locks.waiters (agrees.waiters k)

  pub no_owner : held_by (seat_of locks k) ≡ None → how_many (second_is k) (owners_from 0 locks.instances locks.seats) ≡ 0
  no_owner h = owns_none 0 locks.instances k locks.seats h

  pub some_owner : (instance : ℕ) → seat_of locks k ≡ Holds instance → 1 ≤ how_many (second_is k) (owners_from 0 locks.instances locks.seats)
  some_owner instance e =
      let within = agrees.held k instance e in
      owns_some 0 locks.instances instance k locks.seats (omega arith) (omega (arith, within)) (agrees.owners k instance e)

  pub waits_there : waited_for k locks.waiters ≡ waits_for (seat_of locks k)
  waits_there = waiters.waited k (waits_for (seat_of locks k)) locks.waiters (agrees.waiters k)

  -- a stack that stands nowhere rests
  pub rests : (sleepers : List (Option ℕ)) (done : List Bool) → IsAway (lists_of locks sleepers done) k → seat_of locks k ≡ Resting
  rests sleepers done away = rests_by (seat_of locks k) refl where
    rests_by : (seat : Seat) → seat_of locks k ≡ seat → seat_of locks k ≡ Resting
    rests_by Resting e = e
    rests_by Free e =
        let one = free_count ∙ ap (λ s. cond (is_free s) 1 0) e in
        absurd (omega (arith, away, one))
    rests_by (Waits instance) e =
        let one : how_many (second_is k) locks.waiters ≡ 1 = waiter_count ∙ ap (λ s. length (pairs_if k (waits_for s))) e in
        absurd (omega (arith, away, one))
    rests_by (Holds instance) e =
        let one = some_owner instance e in
        absurd (omega (arith, away, one))

  pub not_asleep : (sleepers : List (Option ℕ)) (done : List Bool) → IsAway (lists_of locks sleepers done) k → slice_index_or sleepers k None ≡ None
  not_asleep sleepers done away = none_by (slice_index_or sleepers k None) refl where
    none_by : (o : Option ℕ) → slice_index_or sleepers k None ≡ o → slice_index_or sleepers k None ≡ None
    none_by None e = e
    none_by (Some until) e =
        let here : 0 + k ≡ k = omega arith in
        let one : how_many (λ (p : ℕ × ℕ). eqb p.0 k) (pairs_from 0 sleepers) ≡ 1 = ap (λ n. how_many (λ (p : ℕ × ℕ). eqb p.0 n) (pairs_from 0 sleepers)) (sym here) ∙ (numbers.pairs_counted 0 k sleepers ∙ ap (λ o. cond (is_some o) 1 0) e) in
        absurd (omega (arith, away, one))

  pub not_done : (sleepers : List (Option ℕ)) (done : List Bool) → IsAway (lists_of locks sleepers done) k → slice_index_or done k false ≡ false
  not_done sleepers done away = none_by (slice_index_or done k false) refl where
    none_by : (t : Bool) → slice_index_or done k false ≡ t → slice_index_or done k false ≡ false
    none_by false e = e
    none_by true e =
        let here : 0 + k ≡ k = omega arith in
        let one : how_many (is_number k) (numbers_of is_true 0 done) ≡ 1 = ap (λ n. how_many (is_number n) (numbers_of is_true 0 done)) (sym here) ∙ (numbers.counted is_true false 0 k done refl ∙ ap (λ t. cond t 1 0) e) in
        absurd (omega (arith, away, one))

  -- one that rests, is awake and isn't done stands nowhere
  away_there : (sleepers : List (Option ℕ)) (done : List Bool) → seat_of locks k ≡ Resting → slice_index_or sleepers k None ≡ None → slice_index_or done k false ≡ false → IsAway (lists_of locks sleepers done) k
  away_there sleepers done e u d =
      let here : 0 + k ≡ k = omega arith in
      let owners = no_owner (ap held_by e) in
      let waiters : how_many (second_is k) locks.waiters ≡ 0 = waiter_count ∙ ap (λ s. length (pairs_if k (waits_for s))) e in
      let free : how_many (is_number k) (numbers_of is_free 0 locks.seats) ≡ 0 = free_count ∙ ap (λ s. cond (is_free s) 1 0) e in
      let asleep : how_many (λ (p : ℕ × ℕ). eqb p.0 k) (pairs_from 0 sleepers) ≡ 0 = ap (λ n. how_many (λ (p : ℕ × ℕ). eqb p.0 n) (pairs_from 0 sleepers)) (sym here) ∙ (numbers.pairs_counted 0 k sleepers ∙ ap (λ o. cond (is_some o) 1 0) u) in
      let over : how_many (is_number k) (numbers_of is_true 0 done) ≡ 0 = ap (λ n. how_many (is_number n) (numbers_of is_true 0 done)) (sym here) ∙ (numbers.counted is_true false 0 k done refl ∙ ap (λ t. cond t 1 0) d) in
      omega (arith, owners, waiters, free, asleep, over)

  pub away_told : (sleepers : List (Option ℕ)) (done : List Bool) → seats.rests (seat_of locks k) && is_none (slice_index_or sleepers k None) && not (slice_index_or done k false) ≡ is_zero (standings (lists_of locks sleepers done) k)
  away_told sleepers done = elim (same_or_not (standings (lists_of locks sleepers done) k) 0) [
    | inl (e, t) ↦ all_true (seats.rests (seat_of locks k)) (is_none (slice_index_or sleepers k None)) (slice_index_or done k false) (ap seats.rests (rests sleepers done e)) (ap is_none (not_asleep sleepers done e)) (not_done sleepers done e) ∙ sym t
    | inr (d, t) ↦ some_false (seat_of locks k) (slice_index_or sleepers k None) (slice_index_or done k false) (λ e u o. d (away_there sleepers done e u o)) ∙ sym t
  ]
    where
      all_true : (r u o : Bool) → r ≡ true → u ≡ true → o ≡ false → r && u && not o ≡ true
      all_true true true false a b c = refl
      all_true true true true a b c = absurd (cc)
      all_true true false o a b c = absurd (cc)
      all_true false u o a b c = absurd (cc)

      some_false : (seat : Seat) (u : Option ℕ) (o : Bool) → (seat ≡ Resting → u ≡ None → o ≡ false → ⊥) → seats.rests seat && is_none u && not o ≡ false
      some_false Resting None false h = absurd (h refl refl refl)
      some_false Resting None true h = refl
      some_false Resting (Some n) o h = refl
      some_false Free u o h = refl
      some_false (Waits i) u o h = refl
      some_false (Holds i) u o h = refl

  -- a stack that runs has a seat to leave
  pub has_seat : (sleepers : List (Option ℕ)) (done : List Bool) → Runs (lists_of locks sleepers done) k → (seat_of locks k ≡ Free) ⊎ ((instance : ℕ) × (seat_of locks k ≡ Holds instance))
  has_seat sleepers done runs = seat_by (seat_of locks k) refl where
    seat_by : (seat : Seat) → seat_of locks k ≡ seat → (seat_of locks k ≡ Free) ⊎ ((instance : ℕ) × (seat_of locks k ≡ Holds instance))
    seat_by Free e = inl e
    seat_by (Holds instance) e = inr (instance, e)
    seat_by Resting e =
        let none = free_count ∙ ap (λ s. cond (is_free s) 1 0) e in
        let nothing = no_owner (ap held_by e) in
        let now = runs.now in
        absurd (omega (arith, none, nothing, now))
    seat_by (Waits instance) e =
        let none = free_count ∙ ap (λ s. cond (is_free s) 1 0) e in
        let nothing = no_owner (ap held_by e) in
        let now = runs.now in
        absurd (omega (arith, none, nothing, now))

  -- what it holds is what it owns
  pub owns : waited_for k (owners_from 0 locks.instances locks.seats) ≡ held_by (seat_of locks k)
  owns = owns_by (seat_of locks k) refl where
    owns_by : (seat : Seat) → seat_of locks k ≡ seat → waited_for k (owners_from 0 locks.instances locks.seats) ≡ held_by (seat_of locks k)
    owns_by Resting e = owns_nothing 0 locks.instances k locks.seats (ap held_by e) ∙ sym (ap held_by e)
    owns_by Free e = owns_nothing 0 locks.instances k locks.seats (ap held_by e) ∙ sym (ap held_by e)
    owns_by (Waits i) e = owns_nothing 0 locks.instances k locks.seats (ap held_by e) ∙ sym (ap held_by e)
    owns_by (Holds i) e =
        let within = agrees.held k i e in
        owns_this 0 locks.instances i k locks.seats (omega arith) (omega (arith, within)) e (agrees.owners k i e) ∙ sym (ap held_by e)

  pub alone : HoldsAlone k locks.seats
  alone i m a b =
      let mine = agrees.owners k i (holds_so (seat_of locks k) i a) in
      let other = agrees.owners m i (holds_so (seat_of locks m) i b) in
      let same : Some m ≡ Some k = sym other ∙ mine in
      cc where
        holds_so : (seat : Seat) (i : ℕ) → holds i seat ≡ true → seat ≡ Holds i
        holds_so Resting i e = absurd (cc)
        holds_so Free i e = absurd (cc)
        holds_so (Waits n) i e = absurd (cc)
        holds_so (Holds n) i e = ap (λ x. Holds x) (eqb-true n i e)

-- ---- options
pub waits_so : (seat : Seat) (instance : ℕ) → waits_for seat ≡ Some instance → seat ≡ Waits instance
waits_so Resting instance e = absurd (cc)
waits_so Free instance e = absurd (cc)
waits_so (Waits n) instance e =
    let same : n ≡ instance = cc in
    ap (λ x. Waits x) same
waits_so (Holds n) instance e = absurd (cc)

pub not_some : (o : Option ℕ) → ((n : ℕ) → o ≡ Some n → ⊥) → o ≡ None
not_some None h = refl
not_some (Some n) h = absurd (h n refl)

-- ---- stacks that are done
pub done_there : (done : List Bool) (k : ℕ) → list_any (is_number k) (numbers_of is_true 0 done) ≡ slice_index_or done k false
done_there done k = there_by (slice_index_or done k false) refl where
  count : how_many (is_number k) (numbers_of is_true 0 done) ≡ cond (slice_index_or done k false) 1 0
  count =
      let here : 0 + k ≡ k = omega arith in
      ap (λ n. how_many (is_number n) (numbers_of is_true 0 done)) (sym here) ∙ numbers.counted is_true false 0 k done refl

  there_by : (t : Bool) → slice_index_or done k false ≡ t → list_any (is_number k) (numbers_of is_true 0 done) ≡ slice_index_or done k false
  there_by true e =
      let one : how_many (is_number k) (numbers_of is_true 0 done) ≡ 1 = count ∙ ap (λ t. cond t 1 0) e in
      some_there (is_number k) (numbers_of is_true 0 done) (omega (arith, one)) ∙ sym e
  there_by false e = none_there (is_number k) (numbers_of is_true 0 done) (count ∙ ap (λ t. cond t 1 0) e) ∙ sym e
