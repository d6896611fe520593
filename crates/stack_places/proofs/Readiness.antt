-- A stack is ready by its seat exactly where it is ready by the lists, and so the stack that is found is the same.
use Rattle.std.proofs.Common.{◌≡◌, ℕ, ◌+◌, ◌%◌, ◌<◌, ◌≤◌, Bool, true, false, not, cond, ◌&&◌, ◌||◌, List, [], ◌∷◌, length, map, Option, Some, None, is_some, is_none, refl, sym, ap, ◌∙◌, arith}
use Rattle.std.specs.List.{find, list_any, range_with_len}
use Rattle.std.proofs.Math.Dec.{eqb}
use Rattle.lock_queue.specs.declared.seat.Seat.{Seat}
use Rattle.lock_queue.specs.declared.seat.Seat.TheVariants.{Resting, Free, Waits, Holds}
use Rattle.lock_queue.specs.LockTable as table
use Rattle.lock_queue.specs.LockTable.{LockTable, held_by, is_first, may_take, numbers_from, owner_of, pairs_if, queue_of, seat_of, start_after, waits_for}
use Rattle.run_laws.specs.Exclusive.{how_many, is_number}
use Rattle.script_meaning.specs.Locks.{is_next, is_ready, is_stack, second_is, stack_of, waited_for}
use Rattle.script_meaning.specs.Turns.{round}
use Rattle.script_meaning.specs.World.{World}
use Rattle.stack_places.specs.Lists.{is_free, numbers_of, owners_from}
use Rattle.stack_places.specs.Places.{IsAway, lists_of, placed}
use Rattle.stack_places.proofs.Round.{round_same}
use Rattle.stack_places.proofs.Seats.{owned}
use Rattle.stack_places.proofs.Standing.{Agrees, free_count, no_owner, none_there, rests, some_owner, some_there, waits_there}
use Rattle.stack_places.proofs.Waiters.{first_waits}

not_some : (o : Option ℕ) → not (is_some o) ≡ is_none o
not_some None = refl
not_some (Some n) = refl

or_true : (t : Bool) → t || true ≡ true
or_true true = refl
or_true false = refl

module _ (locks : LockTable) (agrees : Agrees locks) (sleepers : List (Option ℕ)) (done : List Bool) (world : World) where
  abbrev owners : List (ℕ × ℕ)
  owners = owners_from 0 locks.instances locks.seats

  abbrev free : List ℕ
  free = numbers_of is_free 0 locks.seats

  abbrev here : World
  here = placed (lists_of locks sleepers done) world

  -- who may take an instance is next for it
  pub is_next_for : (k instance : ℕ) → instance < locks.instances → is_next here k (Some instance) ≡ may_take locks k instance
  is_next_for k instance within =
      let open_to : not (list_any (λ pair. eqb pair.0 instance) owners) ≡ is_none (owner_of locks instance) = ap not (owned instance 0 locks.instances locks.seats (omega arith) (omega (arith, within))) ∙ not_some (owner_of locks instance) in
      let first : is_stack k (stack_of locks.waiters instance) ≡ is_first k (queue_of locks instance) = sym (first_waits k instance locks.waiters) in
      ap (λ t. t && is_stack k (stack_of locks.waiters instance)) open_to ∙ ap (λ t. is_none (owner_of locks instance) && t) first

  by_parts : (k : ℕ) (a b c : Bool) → list_any (second_is k) owners ≡ a → list_any (λ stack. eqb stack k) free ≡ b → is_next here k (waited_for k locks.waiters) ≡ c → is_ready here k ≡ a || b || c
  by_parts k a b c e f g =
      ap (λ t. t || list_any (λ stack. eqb stack k) free || is_next here k (waited_for k locks.waiters)) e ∙ (ap (λ t. a || t || is_next here k (waited_for k locks.waiters)) f ∙ ap (λ t. a || b || t) g)

  pub ready_by_seat : (k : ℕ) → is_ready here k ≡ table.is_ready locks k
  ready_by_seat k = ready_by (seat_of locks k) refl where
    next_of : (o : Option ℕ) → waits_for (seat_of locks k) ≡ o → is_next here k (waited_for k locks.waiters) ≡ is_next here k o
    next_of o e = ap (is_next here k) (waits_there locks agrees k ∙ e)

    not_free : (seat : Seat) → seat_of locks k ≡ seat → is_free seat ≡ false → list_any (λ stack. eqb stack k) free ≡ false
    not_free seat e f =
        none_there (is_number k) free (free_count locks agrees k ∙ (ap (λ s. cond (is_free s) 1 0) e ∙ ap (λ t. cond t 1 0) f))

    unowned : (seat : Seat) → seat_of locks k ≡ seat → held_by seat ≡ None → list_any (second_is k) owners ≡ false
    unowned seat e f = none_there (second_is k) owners (no_owner locks agrees k (ap held_by e ∙ f))

    ready_by : (seat : Seat) → seat_of locks k ≡ seat → is_ready here k ≡ table.is_ready locks k
    ready_by Resting e =
        by_parts k false false false (unowned Resting e refl) (not_free Resting e refl) (next_of None (ap waits_for e)) ∙ sym (ap (table.is_ready_in locks k) e)
    ready_by Free e =
        let one : how_many (is_number k) free ≡ 1 = free_count locks agrees k ∙ ap (λ s. cond (is_free s) 1 0) e in
        by_parts k false true (is_next here k (waited_for k locks.waiters)) (unowned Free e refl) (some_there (is_number k) free (omega (arith, one))) refl ∙ sym (ap (table.is_ready_in locks k) e)
    ready_by (Waits instance) e =
        by_parts k false false (may_take locks k instance) (unowned (Waits instance) e refl) (not_free (Waits instance) e refl) (next_of (Some instance) (ap waits_for e) ∙ is_next_for k instance (agrees.awaited k instance e)) ∙ sym (ap (table.is_ready_in locks k) e)
    ready_by (Holds instance) e =
        by_parts k true (list_any (λ stack. eqb stack k) free) (is_next here k (waited_for k locks.waiters)) (some_there (second_is k) owners (some_owner locks agrees k instance e)) refl refl ∙ sym (ap (table.is_ready_in locks k) e)

  found_same : (P Q : ℕ → Bool) → ((k : ℕ) → P k ≡ Q k) → (ns : List ℕ) → find P ns ≡ find Q ns
  found_same P Q h [] = refl
  found_same P Q h (n ∷ ns) =
      ap (λ t. cond t (Some n) (find P ns)) (h n) ∙ ap (λ o. cond (Q n) (Some n) o) (found_same P Q h ns)

  -- what a round finds
  pub round_finds : (last : Option ℕ) → world.last ≡ last → start_after last ≤ world.started → world.started ≤ length locks.seats → ((k : ℕ) → world.started ≤ k → IsAway (lists_of locks sleepers done) k) → table.ready_after locks last ≡ find (is_ready here) (round here)
  round_finds last e within few away =
      let idle : (k : ℕ) → world.started ≤ k → table.is_ready locks k ≡ false = λ k h. ap (table.is_ready_in locks k) (rests locks agrees k sleepers done (away k h)) in
      round_same (table.is_ready locks) (start_after last) world.started (length locks.seats) within few idle ∙ (found_same (table.is_ready locks) (is_ready here) (λ k. sym (ready_by_seat k)) (map (λ n. (start_after last + n) % world.started) (range_with_len 0 world.started)) ∙ same_round last e) where
        same_round : (last : Option ℕ) → world.last ≡ last → find (is_ready here) (map (λ n. (start_after last + n) % world.started) (range_with_len 0 world.started)) ≡ find (is_ready here) (round here)
        same_round None e =
            sym (ap (λ (o : Option ℕ). find (is_ready here) (round (record here { last = o }))) e)
        same_round (Some n) e =
            sym (ap (λ (o : Option ℕ). find (is_ready here) (round (record here { last = o }))) e)
