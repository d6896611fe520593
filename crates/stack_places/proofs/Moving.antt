-- The lists after a stack moved.
use Rattle.std.proofs.Common.{◌≡◌, ℕ, ◌+◌, ◌<◌, Bool, true, false, ◌&&◌, List, [], ◌∷◌, ◌++◌, length, Option, Some, None, is_none, refl, sym, ap, ◌∙◌, arith}
use Rattle.std.specs.Prelude.{slice_set}
use Rattle.std.specs.List.{filter}
use Rattle.lock_queue.specs.declared.seat.Seat.{Seat}
use Rattle.lock_queue.specs.declared.seat.Seat.TheVariants.{Resting, Free, Waits, Holds}
use Rattle.lock_queue.specs.LockTable.{LockTable, held_by, is_first, may_take, owner_of, pairs_if, queue_of, seat_of, waits_for, without_stack}
use Rattle.script_meaning.specs.Locks.{ends, goes_to_wait, is_other, let_go, second_is_other, sleeps, takes, waited_for, becomes_owner, with_number, with_pair}
use Rattle.script_meaning.specs.World.{World}
use Rattle.stack_places.specs.Lists.{is_free, is_true, numbers_of, pairs_from}
use Rattle.stack_places.specs.Places.{IsAway, Moved, PlaceLists, lists_of, placed}
use Rattle.stack_places.proofs.Numbers as numbers
use Rattle.stack_places.proofs.Seats.{released, taken, unheld}
use Rattle.stack_places.proofs.Standing.{Agrees, alone, not_asleep, not_done, rests, waits_there}
use Rattle.stack_places.proofs.Waiters.{left_without}

-- worlds with the same lists are the same
pub same_lists : (world : World) (o o' w w' a a' : List (ℕ × ℕ)) (f f' d d' : List ℕ) → o ≡ o' → w ≡ w' → f ≡ f' → d ≡ d' → a ≡ a' → placed (record { owners = o; waiters = w; free = f; done = d; asleep = a }) world ≡ placed (record { owners = o'; waiters = w'; free = f'; done = d'; asleep = a' }) world
same_lists world o o' w w' a a' f f' d d' eo ew ef ed ea =
    ap (λ x. placed (record { owners = x; waiters = w; free = f; done = d; asleep = a }) world) eo
    ∙ (ap (λ x. placed (record { owners = o'; waiters = x; free = f; done = d; asleep = a }) world) ew
    ∙ (ap (λ x. placed (record { owners = o'; waiters = w'; free = x; done = d; asleep = a }) world) ef
    ∙ (ap (λ x. placed (record { owners = o'; waiters = w'; free = f'; done = x; asleep = a }) world) ed
    ∙ ap (λ x. placed (record { owners = o'; waiters = w'; free = f'; done = d'; asleep = x }) world) ea)))

module _ (locks : LockTable) (agrees : Agrees locks) (sleepers : List (Option ℕ)) (done : List Bool) (k : ℕ) (within : k < length locks.seats) where
  abbrev old : PlaceLists
  old = lists_of locks sleepers done

  -- the table with another seat and these waiters
  abbrev with_seat : Seat → List (ℕ × ℕ) → LockTable
  with_seat seat ws = record { seats = slice_set locks.seats k seat; waiters = ws; instances = locks.instances }

  abbrev after : Seat → List (ℕ × ℕ) → PlaceLists
  after seat ws = lists_of (with_seat seat ws) sleepers done

  nothing_held : IsAway old k → held_by (seat_of locks k) ≡ None
  nothing_held away = ap held_by (rests locks agrees k sleepers done away)

  not_free : IsAway old k → is_free (seat_of locks k) ≡ false
  not_free away = ap is_free (rests locks agrees k sleepers done away)

  zero_on : 0 + k ≡ k
  zero_on = omega arith

  -- ---- it goes to wait
  pub joins : (instance : ℕ) → IsAway old k → Moved (goes_to_wait k (Some instance)) old (after (Waits instance) (locks.waiters ++ (instance, k) ∷ []))
  joins instance away world =
      same_lists world (after (Waits instance) []).owners old.owners (locks.waiters ++ (instance, k) ∷ []) (locks.waiters ++ (instance, k) ∷ []) old.asleep old.asleep (after (Waits instance) []).free old.free old.done old.done
      (unheld 0 locks.instances k (Waits instance) locks.seats refl (nothing_held away)) refl
      (numbers.keep_out is_free Resting (Waits instance) 0 k locks.seats (not_free away) refl) refl refl

  pub runs_free : IsAway old k → Moved (goes_to_wait k None) old (after Free locks.waiters)
  runs_free away world =
      same_lists world (after Free []).owners old.owners locks.waiters locks.waiters old.asleep old.asleep (after Free []).free (with_number k old.free) old.done old.done
      (unheld 0 locks.instances k Free locks.seats refl (nothing_held away)) refl
      (numbers.put_in is_free Resting Free 0 k locks.seats within (not_free away) refl ∙ ap (λ n. with_number n old.free) zero_on) refl refl

  -- ---- it takes the instance that it waits for
  and_left : (a b : Bool) → a && b ≡ true → a ≡ true
  and_left true b h = refl
  and_left false b h = h

  none_of : (o : Option ℕ) → is_none o ≡ true → o ≡ None
  none_of None h = refl
  none_of (Some n) h = absurd (cc)

  pub takes_one : (instance : ℕ) → seat_of locks k ≡ Waits instance → may_take locks k instance ≡ true → Moved (takes k) old (after (Holds instance) (without_stack locks.waiters k))
  takes_one instance seat may world =
      let unowned : owner_of locks instance ≡ None = none_of (owner_of locks instance) (and_left (is_none (owner_of locks instance)) (is_first k (queue_of locks instance)) may) in
      let inside = agrees.awaited k instance seat in
      let waits : waited_for k locks.waiters ≡ Some instance = waits_there locks agrees k ∙ ap waits_for seat in
      same_lists world (after (Holds instance) []).owners (with_pair (instance, k) old.owners) (without_stack locks.waiters k) (filter (second_is_other k) locks.waiters) old.asleep old.asleep (after (Holds instance) []).free old.free old.done old.done
      (taken 0 locks.instances instance k locks.seats (omega arith) (omega (arith, inside)) within (ap held_by seat) unowned)
      (left_without k instance locks.waiters (agrees.waiters k ∙ ap (λ s. pairs_if k (waits_for s)) seat))
      (numbers.keep_out is_free Resting (Holds instance) 0 k locks.seats (ap is_free seat) refl) refl refl
      ∙ sym (ap (λ o. becomes_owner k o (placed old world)) waits)

  pub takes_none : waits_for (seat_of locks k) ≡ None → Moved (takes k) old old
  takes_none none world =
      let waits : waited_for k locks.waiters ≡ None = waits_there locks agrees k ∙ none in
      sym (ap (λ o. becomes_owner k o (placed old world)) waits)

  -- ---- it lets go
  pub lets_go : Moved (let_go k) old (after Resting locks.waiters)
  lets_go world =
      same_lists world (after Resting []).owners (filter (second_is_other k) old.owners) locks.waiters locks.waiters old.asleep old.asleep (after Resting []).free (filter (is_other k) old.free) old.done old.done
      (released 0 locks.instances k Resting locks.seats refl (alone locks agrees k)) refl
      (numbers.take_out is_free Resting 0 k locks.seats refl ∙ ap (λ n. filter (is_other n) old.free) zero_on) refl refl

  -- ---- it sleeps, or is done
  pub falls_asleep : (until : ℕ) → length sleepers ≡ length locks.seats → IsAway old k → Moved (sleeps k until) old (lists_of locks (slice_set sleepers k (Some until)) done)
  falls_asleep until same away world =
      same_lists world old.owners old.owners locks.waiters locks.waiters (pairs_from 0 (slice_set sleepers k (Some until))) (with_pair (k, until) old.asleep) old.free old.free old.done old.done refl refl refl refl
      (numbers.given until 0 k sleepers (omega (arith, within, same)) (not_asleep locks agrees k sleepers done away) ∙ ap (λ n. with_pair (n, until) old.asleep) zero_on)

  pub is_ended : length done ≡ length locks.seats → IsAway old k → Moved (ends k) old (lists_of locks sleepers (slice_set done k true))
  is_ended same away world =
      same_lists world old.owners old.owners locks.waiters locks.waiters old.asleep old.asleep old.free old.free (numbers_of is_true 0 (slice_set done k true)) (with_number k old.done) refl refl refl
      (numbers.put_in is_true false true 0 k done (omega (arith, within, same)) (not_done locks agrees k sleepers done away) refl ∙ ap (λ n. with_number n old.done) zero_on) refl
