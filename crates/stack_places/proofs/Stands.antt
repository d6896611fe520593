-- How often stacks stand after one of them moved.
use Rattle.std.proofs.Common.{◌≡◌, ℕ, zero, suc, ◌+◌, ◌<◌, ◌≤◌, Bool, true, false, cond, ◌||◌, inl, inr, List, [], ◌∷◌, length, Option, None, Some, refl, sym, ap, subst, ◌∙◌, arith}
use Rattle.std.proofs.Math.Dec.{eqb}
use Rattle.std.proofs.lemmas.Bool.{false≢true}
use Rattle.std.specs.List.{AllByRecursion, list_any}
use Rattle.run_laws.specs.Exclusive.{first_is, how_many, is_number, standings as standings_in}
use Rattle.run_laws.proofs.Counts.{how_many-append, how_many-with_number, how_many-with_pair, how_many-without_number, how_many-without_second, same_or_not, waits_for as waits_counted}
use Rattle.run_laws.proofs.Standing.{started_or_not}
use Rattle.run_laws.proofs.Runs.{chosen_ready}
use Rattle.script_meaning.specs.Locks.{becomes_owner, ends, goes_to_wait, is_next, is_ready, let_go, moves, rests, same_instance, second_is, sleeps, takes, waited_for}
use Rattle.script_meaning.specs.Turns.{chosen}
use Rattle.core_tree.specs.Scenes.{OrderShape}
use Rattle.script_meaning.specs.World.{World}
use Rattle.stack_places.specs.Places.{IsAway, IsReady, Moves, MovesIn, PlaceLists, PlaceTable, Runs, SameStandings, StandsThen, TakesFirst, due_in, finishes, placed, standings}
use Rattle.stack_places.proofs.Numbers.{itself}
use Rattle.stack_places.proofs.Standing.{none_there, some_world}
use Rattle.stack_places.proofs.Woken.{Taken, counts, is_first, others}

pub same_refl : (p : PlaceTable) → SameStandings p p
same_refl p = record { stands = λ k. refl; instances = refl; room = refl }

pub same_twice : (p q r : PlaceTable) → SameStandings p q → SameStandings q r → SameStandings p r
same_twice p q r a b =
    record { stands = λ k. b.stands k ∙ a.stands k; instances = b.instances ∙ a.instances; room = b.room ∙ a.room }

-- ---- in a world
waits_in : (k n : ℕ) (o : Option ℕ) (w : World) → standings_in (goes_to_wait k o w) n ≡ standings_in w n + cond (eqb k n) 1 0
waits_in k n None w = let f = how_many-with_number (is_number n) k w.free in omega (arith, f)
waits_in k n (Some i) w =
    let b = how_many-append (second_is n) w.waiters ((i, k) ∷ []) in omega (arith, b)

sleeps_in : (k n until : ℕ) (w : World) → standings_in (sleeps k until w) n ≡ standings_in w n + cond (eqb k n) 1 0
sleeps_in k n until w =
    let s = how_many-with_pair (first_is n) (k, until) w.asleep in omega (arith, s)

ends_in : (k n : ℕ) (w : World) → standings_in (ends k w) n ≡ standings_in w n + cond (eqb k n) 1 0
ends_in k n w = let d = how_many-with_number (is_number n) k w.done in omega (arith, d)

-- a stack lets go, and stands again
back_in : (k : ℕ) (w v : World) → standings_in w k ≡ 1 → 1 ≤ how_many (second_is k) w.owners + how_many (is_number k) w.free → ((n : ℕ) → standings_in v n ≡ standings_in (let_go k w) n + cond (eqb k n) 1 0) → (n : ℕ) → standings_in v n ≡ standings_in w n
back_in k w v once now back n =
    let o = how_many-without_second k n w.owners in
    let f = how_many-without_number k n w.free in
    let b = back n in
    elim (same_or_not k n) [
      | inl (e, t) ↦
          let one = ap {B = ℕ} (λ b. cond b 1 0) t in
          let none_owned = ap {B = ℕ} (λ b. cond b 0 (how_many (second_is n) w.owners)) t in
          let none_free = ap {B = ℕ} (λ b. cond b 0 (how_many (is_number n) w.free)) t in
          let here : standings_in w n ≡ 1 = subst (λ m. standings_in w m ≡ 1) e once in
          let there : 1 ≤ how_many (second_is n) w.owners + how_many (is_number n) w.free = subst (λ m. 1 ≤ how_many (second_is m) w.owners + how_many (is_number m) w.free) e now in
          omega (arith, o, f, b, one, none_owned, none_free, here, there)
      | inr (d, t) ↦
          let one = ap {B = ℕ} (λ b. cond b 1 0) t in
          let as_owned = ap {B = ℕ} (λ b. cond b 0 (how_many (second_is n) w.owners)) t in
          let as_free = ap {B = ℕ} (λ b. cond b 0 (how_many (is_number n) w.free)) t in
          omega (arith, o, f, b, one, as_owned, as_free)
    ]

-- ---- a stack that stood nowhere
then_by : (k : ℕ) (p q : PlaceTable) → IsAway p.lists k → ((n : ℕ) → standings q.lists n ≡ standings p.lists n + cond (eqb k n) 1 0) → q.instances ≡ p.instances → q.room ≡ p.room → StandsThen k p q
then_by k p q away count instances room = record {
  here =
      let c = count k in
      let one = ap {B = ℕ} (λ b. cond b 1 0) (itself k) in
      omega (arith, c, one, away);
  others = λ n other. elim (same_or_not k n) [
    | inl (e, t) ↦ absurd (other (sym e))
    | inr (d, t) ↦ let c = count n in let none = ap {B = ℕ} (λ b. cond b 1 0) t in omega (arith, c, none)
  ];
  instances = instances;
  room = room;
}

pub waits_then : (k : ℕ) (o : Option ℕ) (p q : PlaceTable) → IsAway p.lists k → Moves (goes_to_wait k o) p q → StandsThen k p q
waits_then k o p q away m =
    then_by k p q away (λ n. ap (λ (v : World). standings_in v n) (m.moved some_world) ∙ waits_in k n o (placed p.lists some_world)) m.instances m.room

pub sleeps_then : (k until : ℕ) (p q : PlaceTable) → IsAway p.lists k → Moves (sleeps k until) p q → StandsThen k p q
sleeps_then k until p q away m =
    then_by k p q away (λ n. ap (λ (v : World). standings_in v n) (m.moved some_world) ∙ sleeps_in k n until (placed p.lists some_world)) m.instances m.room

pub ends_then : (k : ℕ) (p q : PlaceTable) → IsAway p.lists k → Moves (ends k) p q → StandsThen k p q
ends_then k p q away m =
    then_by k p q away (λ n. ap (λ (v : World). standings_in v n) (m.moved some_world) ∙ ends_in k n (placed p.lists some_world)) m.instances m.room

-- ---- what acts leave
pub same_moved : (k : ℕ) (from to : Option ℕ) (p q : PlaceTable) → Runs p.lists k → Moves (moves k from to) p q → SameStandings p q
same_moved k from to p q runs m = record {
  stands = λ n. ap (λ (v : World). standings_in v n) (m.moved some_world) ∙ moved_by (same_instance from to) n;
  instances = m.instances;
  room = m.room;
}
  where
    w : World
    w = placed p.lists some_world

    moved_by : (t : Bool) (n : ℕ) → standings_in (cond t w (goes_to_wait k to (let_go k w))) n ≡ standings_in w n
    moved_by true n = refl
    moved_by false n = back_in k w (goes_to_wait k to (let_go k w)) runs.once runs.now (λ m. waits_in k m to (let_go k w)) n

pub same_finished : (k : ℕ) (p q : PlaceTable) → Runs p.lists k → Moves (finishes k) p q → SameStandings p q
same_finished k p q runs m = record {
  stands = λ n. ap (λ (v : World). standings_in v n) (m.moved some_world) ∙ back_in k (placed p.lists some_world) (ends k (let_go k (placed p.lists some_world))) runs.once runs.now (λ i. ends_in k i (let_go k (placed p.lists some_world))) n;
  instances = m.instances;
  room = m.room;
}

-- a world in a turn
abbrev at_turn : ℕ → World
at_turn turn = record some_world { turn = turn }

rests_in : (k latency : ℕ) (o : Option ℕ) (w : World) → standings_in w k ≡ 1 → 1 ≤ how_many (second_is k) w.owners + how_many (is_number k) w.free → (n : ℕ) → standings_in (rests k latency o w) n ≡ standings_in w n
rests_in k zero o w once now n = back_in k w (goes_to_wait k o (let_go k w)) once now (λ m. waits_in k m o (let_go k w)) n
rests_in k (suc latency) o w once now n = back_in k w (sleeps k (w.turn + 1 + suc latency) (let_go k w)) once now (λ m. sleeps_in k m (w.turn + 1 + suc latency) (let_go k w)) n

pub same_rested : (turn k latency : ℕ) (o : Option ℕ) (p q : PlaceTable) → Runs p.lists k → MovesIn turn (rests k latency o) p q → SameStandings p q
same_rested turn k latency o p q runs m = record {
  stands = λ n. ap (λ (v : World). standings_in v n) (m.moved (at_turn turn) refl) ∙ rests_in k latency o (placed p.lists (at_turn turn)) runs.once runs.now n;
  instances = m.instances;
  room = m.room;
}

-- ---- a stack that takes its instance
all_units : (xs : List (ℕ × ℕ)) → AllByRecursion (λ (pair : ℕ × ℕ). Unit {0}) xs
all_units [] = tt
all_units (x ∷ xs) = (tt, all_units xs)

waits_once : (k i : ℕ) (ps : List (ℕ × ℕ)) → waited_for k ps ≡ Some i → 1 ≤ how_many (second_is k) ps
waits_once k i ps e = (waits_counted k ps i (λ (pair : ℕ × ℕ). Unit {0}) (all_units ps) e).0

owner_in : (k n : ℕ) (o : Option ℕ) (w : World) → waited_for k w.waiters ≡ o → standings_in w k ≤ 1 → standings_in (becomes_owner k o w) n ≡ standings_in w n
owner_in k n None w e once = refl
owner_in k n (Some i) w e once =
    let owners = how_many-with_pair (second_is n) (i, k) w.owners in
    let waiters = how_many-without_second k n w.waiters in
    let here = waits_once k i w.waiters e in
    elim (same_or_not k n) [
      | inl (same, t) ↦
          let one = ap {B = ℕ} (λ b. cond b 1 0) t in
          let none = ap {B = ℕ} (λ b. cond b 0 (how_many (second_is n) w.waiters)) t in
          let mine : how_many (second_is n) w.waiters ≡ 1 = subst (λ m. how_many (second_is m) w.waiters ≡ 1) same (omega (arith, once, here)) in
          omega (arith, owners, waiters, one, none, mine)
      | inr (d, t) ↦
          let one = ap {B = ℕ} (λ b. cond b 1 0) t in
          let none = ap {B = ℕ} (λ b. cond b 0 (how_many (second_is n) w.waiters)) t in
          omega (arith, owners, waiters, one, none)
    ]

pub same_taken : (k : ℕ) (p q : PlaceTable) → standings p.lists k ≤ 1 → Moves (takes k) p q → SameStandings p q
same_taken k p q once m = record {
  stands = λ n. ap (λ (v : World). standings_in v n) (m.moved some_world) ∙ owner_in k n (waited_for k p.lists.waiters) (placed p.lists some_world) refl once;
  instances = m.instances;
  room = m.room;
}

none_ready : (a b c : Bool) → a ≡ false → b ≡ false → c ≡ false → a || b || c ≡ true → ⊥
none_ready true b c e f g h = false≢true (sym e)
none_ready false true c e f g h = false≢true (sym f)
none_ready false false c e f g h = false≢true (sym g ∙ h)

-- a stack that waits for nothing and is ready owns an instance or is free
holds_in : (k : ℕ) (w : World) → waited_for k w.waiters ≡ None → is_ready w k ≡ true → 1 ≤ how_many (second_is k) w.owners + how_many (is_number k) w.free
holds_in k w e ready = elim (same_or_not (how_many (second_is k) w.owners + how_many (is_number k) w.free) 0) [
  | inr (d, t) ↦ omega (arith, d)
  | inl (none, t) ↦ absurd (none_ready (list_any (second_is k) w.owners) (list_any (is_number k) w.free) (is_next w k (waited_for k w.waiters)) (none_there (second_is k) w.owners (omega (arith, none))) (none_there (is_number k) w.free (omega (arith, none))) (ap (is_next w k) e) ready)
]

owns_in : (k : ℕ) (o : Option ℕ) (w : World) → waited_for k w.waiters ≡ o → is_ready w k ≡ true → 1 ≤ how_many (second_is k) (becomes_owner k o w).owners + how_many (is_number k) (becomes_owner k o w).free
owns_in k None w e ready = holds_in k w e ready
owns_in k (Some i) w e ready =
    let owners = how_many-with_pair (second_is k) (i, k) w.owners in
    let one = ap {B = ℕ} (λ b. cond b 1 0) (itself k) in
    omega (arith, owners, one)

pub taken_runs : (k : ℕ) (p q : PlaceTable) → standings p.lists k ≡ 1 → IsReady p.lists k → Moves (takes k) p q → Runs q.lists k
taken_runs k p q once ready m = record {
  once = (same_taken k p q (omega (arith, once)) m).stands k ∙ once;
  now =
      let w = placed p.lists some_world in
      let e : how_many (second_is k) q.lists.owners + how_many (is_number k) q.lists.free ≡ how_many (second_is k) (takes k w).owners + how_many (is_number k) (takes k w).free = ap (λ (v : World). how_many (second_is k) v.owners + how_many (is_number k) v.free) (m.moved some_world) in
      let h = owns_in k (waited_for k p.lists.waiters) w refl (ready some_world) in
      omega (arith, e, h);
}

-- ---- a stack that is ready stands somewhere
waits_not : (k : ℕ) (ps : List (ℕ × ℕ)) → how_many (second_is k) ps ≡ 0 → waited_for k ps ≡ None
waits_not k ps none = not_by (waited_for k ps) refl where
  not_by : (o : Option ℕ) → waited_for k ps ≡ o → waited_for k ps ≡ None
  not_by None e = e
  not_by (Some i) e = let some = waits_once k i ps e in absurd (omega (arith, some, none))

pub ready_stands : (k : ℕ) (p : PlaceLists) → IsReady p k → IsAway p k → ⊥
ready_stands k p ready away =
    let some = holds_in k (placed p some_world) (waits_not k p.waiters (omega (arith, away))) (ready some_world) in
    omega (arith, away, some)

-- ---- the stack that is chosen
pub chosen_is_ready : (order : OrderShape) (turn started : ℕ) (last : Option ℕ) (p : PlaceLists) (k : ℕ) → ((world : World) → world.turn ≡ turn → world.last ≡ last → world.started ≡ started → Some k ≡ chosen order (placed p world)) → IsReady p k
chosen_is_ready order turn started last p k is =
    λ w. chosen_ready order (placed p (record some_world { turn = turn; last = last; started = started })) k (sym (is (record some_world { turn = turn; last = last; started = started }) refl refl refl))

pub ready_has_started : (started k : ℕ) (p : PlaceLists) → ((n : ℕ) → started ≤ n → IsAway p n) → IsReady p k → k < started
ready_has_started started k p away ready = elim (started_or_not k started) [
  | inl h ↦ h
  | inr h ↦ absurd (ready_stands k p ready (away k h))
]

-- ---- a sleeper that wakes
taken : (turn k : ℕ) (p q : PlaceTable) → TakesFirst turn k p q → Taken turn k p.lists q.lists
taken turn k p q t = record { until = t.until; due = t.due; rest = t.rest }

pub due_stands : (turn k : ℕ) (p q : PlaceTable) → TakesFirst turn k p q → IsAway p.lists k → ⊥
due_stands turn k p q t away =
    let c = counts turn k k p.lists q.lists (taken turn k p q t) in
    let one = ap {B = ℕ} (λ b. cond b 1 0) (itself k) in
    omega (arith, c, one, away)

pub taken_away : (turn k : ℕ) (p q : PlaceTable) → TakesFirst turn k p q → standings p.lists k ≡ 1 → IsAway q.lists k
taken_away turn k p q t once =
    let c = counts turn k k p.lists q.lists (taken turn k p q t) in
    let o = others turn k p.lists q.lists (taken turn k p q t) k in
    let one = ap {B = ℕ} (λ b. cond b 1 0) (itself k) in
    omega (arith, c, one, o, once)

pub same_woken : (turn k : ℕ) (p q r : PlaceTable) → TakesFirst turn k p q → standings p.lists k ≡ 1 → StandsThen k q r → SameStandings p r
same_woken turn k p q r t once then = record {
  stands = λ n. elim (same_or_not k n) [
    | inl (e, b) ↦ subst (λ i. standings r.lists i ≡ standings p.lists i) e (then.here ∙ sym once)
    | inr (d, b) ↦
        let c = counts turn k n p.lists q.lists (taken turn k p q t) in
        let o = others turn k p.lists q.lists (taken turn k p q t) n in
        let none = ap {B = ℕ} (λ b. cond b 1 0) b in
        let far = then.others n (λ e. d (sym e)) in
        omega (arith, c, o, none, far)
  ];
  instances = then.instances ∙ t.instances;
  room = then.room ∙ t.room;
}

-- those that are still due have the numbers that were due
pub still_due : (turn k n : ℕ) (p q : PlaceTable) → TakesFirst turn k p q → 1 ≤ how_many (first_is n) (due_in turn q.lists) → 1 ≤ how_many (first_is n) (due_in turn p.lists)
still_due turn k n p q t h =
    let d = ap (how_many (first_is n)) t.due in
    omega (arith, d, h)

pub first_due : (turn k : ℕ) (p q : PlaceTable) → TakesFirst turn k p q → 1 ≤ how_many (first_is k) (due_in turn p.lists)
first_due turn k p q t = is_first turn k p.lists q.lists (taken turn k p q t)

pub due_falls : (turn k : ℕ) (p q : PlaceTable) → TakesFirst turn k p q → length (due_in turn q.lists) < length (due_in turn p.lists)
due_falls turn k p q t = let d = ap (λ (ps : List (ℕ × ℕ)). length ps) t.due in omega (arith, d)
