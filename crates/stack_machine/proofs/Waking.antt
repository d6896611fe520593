-- Sleepers that are due are woken in order of their numbers.
use Rattle.std.proofs.Common.{◌≡◌, ℕ, ◌+◌, ◌<◌, ◌≤◌, List, [], ◌∷◌, Option, None, Some, sym, ap, subst, ◌∙◌, arith}
use Rattle.run_laws.specs.Exclusive.{first_is, how_many}
use Rattle.run_replay.specs.declared.lock_move.LockMove.{LockMove}
use Rattle.script_meaning.specs.Turns.{is_due}
use Rattle.std.specs.List.{filter}
use Rattle.stack_places.specs.Places.{PlaceTable, TakesFirst, due_in}
use Rattle.stack_places.proofs.Stands.{first_due}
use Rattle.stack_machine.specs.Moves.{Adds, AreWakes, Begins, Noted}
use Rattle.stack_machine.proofs.Noting.{noted_as, noted_more, noted_none, wakes_more, wakes_within}

-- the sleepers that were woken so far, and the moves of those that began
pub record Woken (turn started : ℕ) (places : PlaceTable) (before now : Option (List LockMove)) : Type 0 where
  pub least : ℕ
  -- no stack before this one is due
  pub behind : (k : ℕ) → 1 ≤ how_many (first_is k) (due_in turn places.lists) → least ≤ k
  pub within : least ≤ started
  pub noted : Noted (AreWakes 0 least) before now

pub none_woken : (turn started : ℕ) (places : PlaceTable) (now : Option (List LockMove)) → Woken turn started places now now
none_woken turn started places now = record {
  least = 0;
  behind = λ k h. omega arith;
  within = omega arith;
  noted = noted_none (AreWakes 0 0) now (omega arith);
}

-- one more
pub woken_more : (turn started k : ℕ) (p q r : PlaceTable) (move : LockMove) (before between now : Option (List LockMove)) → Woken turn started p before between → TakesFirst turn k p q → ((n : ℕ) → 1 ≤ how_many (first_is n) (due_in turn q.lists) → k < n) → r.lists.asleep ≡ q.lists.asleep → k < started → Begins k move → Adds (move ∷ []) between now → Woken turn started r before now
woken_more turn started k p q r move before between now w taken first same within begins added =
    let rises : w.least ≤ k = w.behind k (first_due turn k p q taken) in
    record {
      least = k + 1;
      behind = λ n h.
          let above = first n (subst (λ (ps : List (ℕ × ℕ)). 1 ≤ how_many (first_is n) (filter (is_due turn) ps)) same h) in
          omega (arith, above);
      within = omega (arith, within);
      noted = noted_more (AreWakes 0 w.least) (AreWakes 0 (k + 1)) move before between now w.noted added (λ these wakes. wakes_more 0 w.least k these move wakes rises begins);
    }

pub all_woken : (turn started : ℕ) (places : PlaceTable) (before now : Option (List LockMove)) → Woken turn started places before now → Noted (AreWakes 0 started) before now
all_woken turn started places before now w =
    noted_as (AreWakes 0 w.least) (AreWakes 0 started) before now w.noted (λ these wakes. wakes_within 0 w.least started these wakes w.within)
