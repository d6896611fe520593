-- What each call leaves, from what it leaves of locks, sleepers and stacks that are done.
use Rattle.std.proofs.Common.{◌≡◌, ℕ, zero, suc, ◌+◌, ◌<◌, Bool, true, false, cond, List, [], ◌∷◌, ◌++◌, length, Option, Some, None, refl, sym, ap, subst, ◌∙◌, arith, ◌⊎◌, inl, inr, IfSome, ◌≤◌}
use Rattle.run_laws.specs.Exclusive.{first_is, how_many}
use Rattle.std.specs.Prelude.{slice_set, position, replicate}
use Rattle.std.specs.List.{filter}
use Rattle.script_meaning.specs.Turns.{is_due, not_due}
use Rattle.std.proofs.lemmas.List.{length-replicate, length-set}
use Rattle.latent_natives.specs.Sleepers as sleeping
use Rattle.lock_queue.specs.declared.seat.Seat.{Seat}
use Rattle.lock_queue.specs.declared.seat.Seat.TheVariants.{Resting, Free, Waits, Holds}
use Rattle.lock_queue.specs.LockTable as table
use Rattle.lock_queue.specs.LockTable.{LockTable, held_by, holds, may_take, seat_at, seat_of, waits_for, without_stack}
use Rattle.script_meaning.specs.Locks.{ends, goes_to_wait, let_go, sleeps, takes}
use Rattle.stack_places.specs.Lists.{is_free, is_true, numbers_of, owners_from, pair_of, pairs_from}
use Rattle.stack_places.specs.Places.{IsAway, IsReady, Moves, NobodyStands, NoneIsDue, PlaceTable, Runs, TakesDue, TakesFirst, due_in, table_of}
use Rattle.stack_places.proofs.Moving.{falls_asleep, is_ended, joins, lets_go, runs_free, takes_none, takes_one}
use Rattle.stack_places.proofs.Numbers as numbers
use Rattle.stack_places.proofs.Readiness.{ready_by_seat}
use Rattle.stack_places.proofs.Seats.{by_place, nowhere}
use Rattle.stack_places.proofs.Sleeping.{due_first, due_none}
use Rattle.stack_places.proofs.Standing.{Agrees, has_seat, not_done, some_world}

module _ (locks : LockTable) (sleepers : List (Option ℕ)) (done : List Bool) where
  abbrev now : PlaceTable
  now = table_of locks sleepers done

  abbrev seated : ℕ → Seat → List (ℕ × ℕ) → LockTable
  seated k seat ws = record { seats = slice_set locks.seats k seat; waiters = ws; instances = locks.instances }

  module _ (agrees : Agrees locks) (k : ℕ) (within : k < length locks.seats) where
    pub joined : (instance : ℕ) (o : Option ℕ) (new : LockTable) → IsAway now.lists k → o ≡ Some instance → new ≡ seated k (Waits instance) (locks.waiters ++ (instance, k) ∷ []) → Moves (goes_to_wait k o) now (table_of new sleepers done)
    joined instance o new away oe e =
        subst (λ n. Moves (goes_to_wait k o) now (table_of n sleepers done)) (sym e) (subst (λ p. Moves (goes_to_wait k p) now (table_of (seated k (Waits instance) (locks.waiters ++ (instance, k) ∷ [])) sleepers done)) (sym oe) (record { moved = joins locks agrees sleepers done k within instance away; instances = refl; room = length-set locks.seats k (Waits instance) }))

    pub freed : (o : Option ℕ) (new : LockTable) → IsAway now.lists k → o ≡ None → new ≡ seated k Free locks.waiters → Moves (goes_to_wait k o) now (table_of new sleepers done)
    freed o new away oe e =
        subst (λ n. Moves (goes_to_wait k o) now (table_of n sleepers done)) (sym e) (subst (λ p. Moves (goes_to_wait k p) now (table_of (seated k Free locks.waiters) sleepers done)) (sym oe) (record { moved = runs_free locks agrees sleepers done k within away; instances = refl; room = length-set locks.seats k Free }))

    -- who is ready and waits may take
    pub may : (instance : ℕ) → IsReady now.lists k → seat_of locks k ≡ Waits instance → may_take locks k instance ≡ true
    may instance ready seat =
        sym (ap (table.is_ready_in locks k) seat) ∙ (sym (ready_by_seat locks agrees sleepers done some_world k) ∙ ready some_world)

    pub took : (instance : ℕ) (new : LockTable) → IsReady now.lists k → seat_of locks k ≡ Waits instance → new ≡ seated k (Holds instance) (without_stack locks.waiters k) → Moves (takes k) now (table_of new sleepers done)
    took instance new ready seat e =
        subst (λ n. Moves (takes k) now (table_of n sleepers done)) (sym e) (record { moved = takes_one locks agrees sleepers done k within instance seat (may instance ready seat); instances = refl; room = length-set locks.seats k (Holds instance) })

    pub took_none : waits_for (seat_of locks k) ≡ None → Moves (takes k) now now
    took_none none =
        record { moved = takes_none locks agrees sleepers done k within none; instances = refl; room = refl }

    pub let_gone : (new : LockTable) → new ≡ seated k Resting locks.waiters → Moves (let_go k) now (table_of new sleepers done)
    let_gone new e =
        subst (λ n. Moves (let_go k) now (table_of n sleepers done)) (sym e) (record { moved = lets_go locks agrees sleepers done k within; instances = refl; room = length-set locks.seats k Resting })

    -- one that runs and holds nothing is free
    pub is_free_there : Runs now.lists k → held_by (seat_of locks k) ≡ None → seat_of locks k ≡ Free
    is_free_there runs none = free_by (has_seat locks agrees k sleepers done runs) where
      free_by : (seat_of locks k ≡ Free) ⊎ ((instance : ℕ) × (seat_of locks k ≡ Holds instance)) → seat_of locks k ≡ Free
      free_by (inl e) = e
      free_by (inr h) = absurd (let both : Some h.0 ≡ None = sym (ap held_by h.1) ∙ none in cc)

    pub slept : (until : ℕ) (new : List (Option ℕ)) → length sleepers ≡ length locks.seats → IsAway now.lists k → new ≡ slice_set sleepers k (Some until) → Moves (sleeps k until) now (table_of locks new done)
    slept until new same away e =
        subst (λ s. Moves (sleeps k until) now (table_of locks s done)) (sym e) (record { moved = falls_asleep locks agrees sleepers done k within until same away; instances = refl; room = refl })

    pub ended : (at : ℕ) → at ≡ k → length done ≡ length locks.seats → IsAway now.lists k → Moves (ends k) now (table_of locks sleepers (slice_set done at true))
    ended at e same away =
        subst (λ n. Moves (ends k) now (table_of locks sleepers (slice_set done n true))) (sym e) (record { moved = is_ended locks agrees sleepers done k within same away; instances = refl; room = refl })

    -- one more is done
    pub one_more : length done ≡ length locks.seats → IsAway now.lists k → length (numbers_of is_true 0 (slice_set done k true)) ≡ suc (length (numbers_of is_true 0 done))
    one_more same away =
        ap length (numbers.put_in is_true false true 0 k done (omega (arith, within, same)) (not_done locks agrees k sleepers done away) refl) ∙ numbers.longer (0 + k) (numbers_of is_true 0 done)

  pub woken : (turn : ℕ) (o : Option ℕ) (new : List (Option ℕ)) → length sleepers ≡ length locks.seats → o ≡ position (sleeping.is_due turn) sleepers → new ≡ sleeping.without_first_due turn sleepers → TakesDue turn o now (table_of locks new done)
  woken turn o new same oe e =
      subst (λ s. TakesDue turn o now (table_of locks s done)) (sym e) (woken_by o (sym oe)) where
        woken_by : (o : Option ℕ) → position (sleeping.is_due turn) sleepers ≡ o → TakesDue turn o now (table_of locks (sleeping.without_first_due turn sleepers) done)
        woken_by None h =
            subst (λ p. NoneIsDue turn now (table_of locks (sleeping.without sleepers p) done)) (sym h) (record { none = due_none turn sleepers h; same = refl })
        woken_by (Some m) h =
            let found = due_first turn m sleepers h in
            let number = found.number in
            let here : found.k ≡ m = omega (arith, number) in
            let below = found.within in
            let due = found.due ∙ ap (λ n. (m, found.until) ∷ filter (is_due turn) (pairs_from 0 (slice_set sleepers n None))) here in
            let rest = sym (ap (λ n. filter (not_due turn) (pairs_from 0 (slice_set sleepers n None))) here) ∙ found.rest in
            subst (λ p. TakesFirst turn m now (table_of locks (sleeping.without sleepers p) done)) (sym h) (record {
              until = found.until;
              due = due;
              rest = ap (λ ps. record { owners = now.lists.owners; waiters = now.lists.waiters; free = now.lists.free; done = now.lists.done; asleep = ps }) rest;
              instances = refl;
              room = refl;
              there = omega (arith, below, number, same);
            })

  -- those that are still due have higher numbers
  pub woken_first : (turn : ℕ) (o : Option ℕ) (new : List (Option ℕ)) → o ≡ position (sleeping.is_due turn) sleepers → new ≡ sleeping.without_first_due turn sleepers → IfSome o (λ (m : ℕ). (j : ℕ) → 1 ≤ how_many (first_is j) (due_in turn (table_of locks new done).lists) → m < j)
  woken_first turn None new oe e = tt
  woken_first turn (Some m) new oe e = λ j h.
      let found = due_first turn m sleepers (sym oe) in
      let number = found.number in
      let here : m ≡ found.k = omega (arith, number) in
      let is : new ≡ slice_set sleepers found.k None = e ∙ (ap (sleeping.without sleepers) (sym oe) ∙ ap (λ n. slice_set sleepers n None) here) in
      found.later j (subst (λ (s : List (Option ℕ)). 1 ≤ how_many (first_is j) (filter (is_due turn) (pairs_from 0 s))) is h)

-- ---- the first places
pub no_numbers : {X : Type 0} (test : X → Bool) (x : X) (n left : ℕ) → test x ≡ false → numbers_of test n (replicate left x) ≡ []
no_numbers test x n zero e = refl
no_numbers test x n (suc left) e =
    ap (λ t. cond t (n ∷ numbers_of test (suc n) (replicate left x)) (numbers_of test (suc n) (replicate left x))) e ∙ no_numbers test x (suc n) left e

no_pairs : (n left : ℕ) → pairs_from n (replicate left None) ≡ []
no_pairs n zero = refl
no_pairs n (suc left) = no_pairs (suc n) left

no_owners : (instance left stacks : ℕ) → owners_from instance left (replicate stacks Resting) ≡ []
no_owners instance zero stacks = refl
no_owners instance (suc left) stacks =
    ap (λ o. pair_of instance o ++ owners_from (suc instance) left (replicate stacks Resting)) (by_place instance (replicate stacks Resting) ∙ nowhere instance (replicate stacks Resting) (λ m. all_rest stacks m)) ∙ no_owners (suc instance) left stacks where
      all_rest : (stacks m : ℕ) → holds instance (seat_at (replicate stacks Resting) m) ≡ false
      all_rest zero m = refl
      all_rest (suc n) zero = refl
      all_rest (suc n) (suc m) = all_rest n m

abbrev first : ℕ → ℕ → PlaceTable
first instances stacks =
    table_of (record { seats = replicate stacks Resting; waiters = []; instances = instances }) (replicate stacks None) (replicate stacks false)

pub nobody : (instances stacks : ℕ) (locks : LockTable) (sleepers : List (Option ℕ)) (done : List Bool) → locks ≡ record { seats = replicate stacks Resting; waiters = []; instances = instances } → sleepers ≡ replicate stacks None → done ≡ replicate stacks false → NobodyStands instances stacks (table_of locks sleepers done)
nobody instances stacks locks sleepers done el es ed =
    subst (λ l. NobodyStands instances stacks (table_of l sleepers done)) (sym el) (subst (λ s. NobodyStands instances stacks (table_of (record { seats = replicate stacks Resting; waiters = []; instances = instances }) s done)) (sym es) (subst (λ d. NobodyStands instances stacks (table_of (record { seats = replicate stacks Resting; waiters = []; instances = instances }) (replicate stacks None) d)) (sym ed) (record {
      lists = empty;
      instances_are = refl;
      room_is = length-replicate stacks Resting;
    }))) where
      empty : (first instances stacks).lists ≡ record { owners = []; waiters = []; free = []; done = []; asleep = [] }
      empty =
          ap (λ o. record { owners = o; waiters = []; free = (first instances stacks).lists.free; done = (first instances stacks).lists.done; asleep = (first instances stacks).lists.asleep }) (no_owners 0 instances stacks)
          ∙ (ap (λ f. record { owners = []; waiters = []; free = f; done = (first instances stacks).lists.done; asleep = (first instances stacks).lists.asleep }) (no_numbers is_free Resting 0 stacks refl)
          ∙ (ap (λ d. record { owners = []; waiters = []; free = []; done = d; asleep = (first instances stacks).lists.asleep }) (no_numbers is_true false 0 stacks refl)
          ∙ ap (λ a. record { owners = []; waiters = []; free = []; done = []; asleep = a }) (no_pairs 0 stacks)))
