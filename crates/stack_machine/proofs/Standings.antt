-- How often stacks stand after a part of a turn.
use Rattle.std.proofs.Common.{◌≡◌, ◌≢◌, ℕ, ◌+◌, ◌<◌, ◌≤◌, ◌^◌, Bool, true, false, ◌⊎◌, inl, inr, Option, None, Some, [], vec_len, refl, sym, ap, subst, ◌∙◌, arith}
use Rattle.std.proofs.lemmas.Bool.{eqb-true, false≢true}
use Rattle.body_runner.specs.declared.body.Turn.{Turn}
use Rattle.lock_queue.specs.LockTable.{start_after}
use Rattle.run_laws.specs.Exclusive.{first_is, how_many}
use Rattle.run_laws.proofs.Counts.{same_or_not}
use Rattle.run_laws.proofs.Standing.{started_or_not}
use Rattle.script_meaning.specs.Locks.{takes}
use Rattle.stack_places.specs.Places.{IsAway, IsReady, Moves, NobodyStands, PlaceLists, PlaceTable, Runs, SameStandings, StandsThen, TakesFirst, due_in, is_zero, standings}
use Rattle.stack_places.proofs.Stands.{due_stands, same_taken, taken_runs}
use Rattle.stack_machine.specs.Standing.{ArePlaced, IsFresh, IsInTurn, IsSameSize, MayTake, StandAtMost, Stands}

-- ---- stacks that have started
pub stands_same : (n : ℕ) (last : Option ℕ) (p q : PlaceTable) → Stands n last p → SameStandings p q → Stands n last q
stands_same n last p q s same = record {
  once = λ k h. same.stands k ∙ s.once k h;
  none_else = λ k h. same.stands k ∙ s.none_else k h;
  within = let w = s.within in let r = same.room in omega (arith, w, r);
  last_started = s.last_started;
}

-- the one that ran is the last
pub stands_ran : (n k : ℕ) (last : Option ℕ) (p q : PlaceTable) → Stands n last p → SameStandings p q → k < n → Stands n (Some k) q
stands_ran n k last p q s same h = record {
  once = λ i g. same.stands i ∙ s.once i g;
  none_else = λ i g. same.stands i ∙ s.none_else i g;
  within = let w = s.within in let r = same.room in omega (arith, w, r);
  last_started = omega (arith, h);
}

-- one more
pub stands_more : (n m : ℕ) (last : Option ℕ) (p q : PlaceTable) → Stands n last p → n < p.room → m ≡ n + 1 → StandsThen n p q → Stands m last q
stands_more n m last p q s room more then = record {
  once = λ k h. elim (same_or_not k n) [
    | inl (e, t) ↦ ap (λ i. standings q.lists i) e ∙ then.here
    | inr (d, t) ↦ then.others k d ∙ s.once k (omega (arith, h, more, d))
  ];
  none_else = λ k h. then.others k (λ e. absurd (omega (arith, h, more, e))) ∙ s.none_else k (omega (arith, h, more));
  within = let r = then.room in omega (arith, room, more, r);
  last_started = let l = s.last_started in omega (arith, l, more);
}

pub nobody_stands : (instances room n : ℕ) (last : Option ℕ) (p : PlaceTable) → NobodyStands instances room p → n ≡ 0 → last ≡ None → Stands n last p
nobody_stands instances room n last p nobody none first = record {
  once = λ k h. absurd (omega (arith, h, none));
  none_else = λ k h. ap (λ (ps : PlaceLists). standings ps k) nobody.lists;
  within = omega (arith, none);
  last_started = subst (λ (o : Option ℕ). start_after o ≤ n) (sym first) (omega arith);
}

pub placed_stands : (instances room n : ℕ) (last : Option ℕ) (p : PlaceTable) → ArePlaced instances room n p → n ≤ room → start_after last ≤ n → Stands n last p
placed_stands instances room n last p a within h = record {
  once = a.once;
  none_else = a.none_else;
  within = let r = a.room_is in omega (arith, within, r);
  last_started = h;
}

-- ---- the stack of a turn
pub may_take : (turn : Turn) (n : ℕ) (last : Option ℕ) (p : PlaceTable) → Stands n last p → turn.stack < n → IsReady p.lists turn.stack → turn.number + 1 < 2 ^ 32 → MayTake turn n p
may_take turn n last p s started ready due = record {
  has_started = started;
  within = let w = s.within in omega (arith, w, started);
  ready = ready;
  once = s.once turn.stack started;
  due = due;
}

pub took_same : (turn : Turn) (n : ℕ) (p q : PlaceTable) → MayTake turn n p → Moves (takes turn.stack) p q → SameStandings p q
took_same turn n p q may moved =
    let once = may.once in same_taken turn.stack p q (omega (arith, once)) moved

pub took_runs : (turn : Turn) (n : ℕ) (p q : PlaceTable) → MayTake turn n p → Moves (takes turn.stack) p q → IsInTurn turn q
took_runs turn n p q may moved = record {
  within = let w = may.within in let r = moved.room in omega (arith, w, r);
  runs = taken_runs turn.stack p q may.once may.ready moved;
  due = may.due;
}

-- ---- stacks that are placed
pub away_by_zero : (n : ℕ) (b : Bool) → b ≡ is_zero n → b ≡ true → n ≡ 0
away_by_zero n b is h = eqb-true n 0 (sym is ∙ h)

pub not_away : (n : ℕ) (b : Bool) → b ≡ is_zero n → b ≡ false → n ≡ 0 → ⊥
not_away n b is h none = false≢true (sym h ∙ (is ∙ ap is_zero none))

pub at_most_then : (n k : ℕ) (p q : PlaceTable) → StandAtMost n p → k < n → StandsThen k p q → StandAtMost n q
at_most_then n k p q s started then = record {
  most = λ i. elim (same_or_not i k) [
    | inl (e, t) ↦ let here = ap (λ j. standings q.lists j) e ∙ then.here in omega (arith, here)
    | inr (d, t) ↦ let far = then.others i d in let m = s.most i in omega (arith, far, m)
  ];
  none_else = λ i h. then.others i (λ e. absurd (omega (arith, h, started, e))) ∙ s.none_else i h;
  within = let w = s.within in let r = then.room in omega (arith, w, r);
}

pub at_most_same : (n : ℕ) (p q : PlaceTable) → StandAtMost n p → SameStandings p q → StandAtMost n q
at_most_same n p q s same = record {
  most = λ i. let e = same.stands i in let m = s.most i in omega (arith, e, m);
  none_else = λ i h. same.stands i ∙ s.none_else i h;
  within = let w = s.within in let r = same.room in omega (arith, w, r);
}

pub nobody_at_most : (instances room n : ℕ) (p : PlaceTable) → NobodyStands instances room p → n ≤ room → StandAtMost n p
nobody_at_most instances room n p nobody within = record {
  most = λ k. let e = ap (λ (ps : PlaceLists). standings ps k) nobody.lists in omega (arith, e);
  none_else = λ k h. ap (λ (ps : PlaceLists). standings ps k) nobody.lists;
  within = let r = nobody.room_is in omega (arith, within, r);
}

pub once_of_most : (n k : ℕ) (p : PlaceTable) → StandAtMost n p → (IsAway p.lists k → ⊥) → standings p.lists k ≡ 1
once_of_most n k p s not_away = elim (same_or_not (standings p.lists k) 0) [
  | inl (e, t) ↦ absurd (not_away e)
  | inr (d, t) ↦ let m = s.most k in omega (arith, m, d)
]

-- ---- a sleeper that is due
pub due_has_started : (turn n k : ℕ) (last : Option ℕ) (p q : PlaceTable) → Stands n last p → TakesFirst turn k p q → k < n
due_has_started turn n k last p q s t = elim (started_or_not k n) [
  | inl h ↦ h
  | inr h ↦ absurd (due_stands turn k p q t (s.none_else k h))
]
