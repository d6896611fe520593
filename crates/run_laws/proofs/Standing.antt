-- Each stack stands once, but for some that stand nowhere while they go from one place to another.
use Rattle.std.proofs.Common.{◌≡◌, ◌≢◌, ℕ, ◌+◌, ◌<◌, ◌≤◌, Bool, true, false, cond, not, ◌&&◌, ◌||◌, ◌⊎◌, List, [], ◌∷◌, Option, Some, None, refl, sym, ap, subst, ◌∙◌, inl, inr, arith}
use Rattle.std.specs.Prelude.{length, slice_set}
use Rattle.std.specs.List.{list_any, AllByRecursion}
use Rattle.std.proofs.lemmas.Bool.{eqb-true, eqb-false, ltb-true, ltb-false}
use Rattle.std.proofs.lemmas.List.{get_or-set_other, get_or-set_same, length-set}
use Rattle.std.proofs.Math.Dec.{eqb, ltb}
use Rattle.core_tree.specs.Device.{DeviceState}
use Rattle.run_laws.specs.Exclusive.{how_many, is_number, first_is, standings, IsOn, IsOnInstance, IsOnNone, HasReply, SleepsWithReply, is_done, IsDone, Exclusive}
use Rattle.script_meaning.specs.Locks.{with_pair, is_other, second_is, second_is_other, let_go, goes_to_wait, sleeps, ends, waited_for, becomes_owner, takes, stack_of, is_owned, is_stack, is_next, is_ready}
use Rattle.script_meaning.specs.Stacks.{Stack, Done, ToEnter, Running, State, stack_at, inner_instance}
use Rattle.script_meaning.specs.World.{World, Instance, ArrayState, Line}
use Rattle.run_laws.proofs.Counts.{same_or_not, how_many-append, how_many-without_second, how_many-without_number, how_many-with_number, how_many-with_pair, how_many-filter, some_pass, none_pass, all_step, all-append, all-filter, all-with_number, all-with_pair, all_others, counted, waits_for}

abbrev pub runs : World → ℕ → Type 0
runs world k = 1 ≤ how_many (second_is k) world.owners + how_many (is_number k) world.free

-- each stack stands once in the world or is one of these
pub record StandsBut {Body : Type 0} (away : List ℕ) (world : World) (stacks : List (Stack Body)) : Type 0 where
  pub one_owner : (instance : ℕ) → how_many (first_is instance) world.owners ≤ 1
  pub count : length stacks ≡ world.started
  pub once : (k : ℕ) → k < world.started → standings world k + how_many (is_number k) away ≡ 1
  pub none_else : (k : ℕ) → world.started ≤ k → standings world k + how_many (is_number k) away ≡ 0
  pub owners : AllByRecursion (IsOnInstance stacks) world.owners
  pub waiters : AllByRecursion (IsOnInstance stacks) world.waiters
  pub free : AllByRecursion (IsOnNone stacks) world.free
  pub asleep : AllByRecursion (SleepsWithReply stacks) world.asleep
  pub done : AllByRecursion (IsDone stacks) world.done

-- ---- stacks that aren't done
pub on_open : {Body : Type 0} (instance : Option ℕ) (stack : Stack Body) → IsOn instance stack → stack ≢ Done
on_open instance stack on = λ e. subst (λ s. IsOn instance s) e on

pub reply_open : {Body : Type 0} (stack : Stack Body) → HasReply stack → stack ≢ Done
reply_open stack r = λ e. subst (λ s. HasReply s) e r

on_inner : {Body : Type 0} (instance : Option ℕ) (stack : Stack Body) → IsOn instance stack → inner_instance stack ≡ instance
on_inner instance Done on = absurd on
on_inner instance (ToEnter own way arguments below) on = on
on_inner instance (Running innermost reply below) on = on

inner_on : {Body : Type 0} (instance : Option ℕ) (stack : Stack Body) → stack ≢ Done → inner_instance stack ≡ instance → IsOn instance stack
inner_on instance Done h e = absurd (h refl)
inner_on instance (ToEnter own way arguments below) h e = e
inner_on instance (Running innermost reply below) h e = e

pub is_on_inner : {Body : Type 0} (stack : Stack Body) → stack ≢ Done → IsOn (inner_instance stack) stack
is_on_inner stack h = inner_on (inner_instance stack) stack h refl

done_of : {Body : Type 0} (stack : Stack Body) → is_done stack ≡ true → stack ≡ Done
done_of Done e = refl
done_of (ToEnter instance way arguments below) e = absurd (cc)
done_of (Running innermost reply below) e = absurd (cc)

-- what an innermost frame is on, the innermost frame with the same instance is on
pub on_as : {Body : Type 0} (instance own : Option ℕ) (stack other : Stack Body) → IsOn own stack → IsOn own other → IsOn instance stack → IsOn instance other
on_as instance own stack other a b c =
    inner_on instance other (on_open own other b) (on_inner own other b ∙ (sym (on_inner own stack a) ∙ on_inner instance stack c))

pub started_or_not : (k n : ℕ) → (k < n) ⊎ (n ≤ k)
started_or_not k n =
    elim (ltb k n) as (λ t. ltb k n ≡ t → (k < n) ⊎ (n ≤ k)) [
      | true ↦ λ e. inl (ltb-true k n e)
      | false ↦ λ e. inr (ltb-false k n e)
    ] refl

module _ {Body : Type 0} where
  pub from_exclusive : (state : State Body) → Exclusive state → StandsBut [] state.world state.stacks
  from_exclusive state e = record {
    one_owner = e.one_owner;
    count = e.stacks;
    once = λ k h. let o = e.once k h in omega arith;
    none_else = λ k h. let o = e.none_else k h in omega arith;
    owners = e.owners;
    waiters = e.waiters;
    free = e.free;
    asleep = e.asleep;
    done = e.done;
  }

  -- a stack that stands elsewhere than among those that are done isn't done
  is_open : (world : World) (stacks : List (Stack Body)) (k : ℕ) → StandsBut [] world stacks → 1 ≤ how_many (second_is k) world.owners + how_many (second_is k) world.waiters + how_many (is_number k) world.free + how_many (first_is k) world.asleep → stack_at stacks k ≢ Done
  is_open world stacks k s h =
      elim (same_or_not (how_many (second_is k) world.owners) 0) [
        | inr (d, t) ↦ let c = counted (IsOnInstance stacks) (second_is k) world.owners s.owners (omega (arith, d)) in subst (λ n. stack_at stacks n ≢ Done) (eqb-true c.0.1 k c.1.0) (on_open (Some c.0.0) (stack_at stacks c.0.1) c.1.1)
        | inl (p, t) ↦ elim (same_or_not (how_many (second_is k) world.waiters) 0) [
          | inr (d, t) ↦ let c = counted (IsOnInstance stacks) (second_is k) world.waiters s.waiters (omega (arith, d)) in subst (λ n. stack_at stacks n ≢ Done) (eqb-true c.0.1 k c.1.0) (on_open (Some c.0.0) (stack_at stacks c.0.1) c.1.1)
          | inl (q, t) ↦ elim (same_or_not (how_many (is_number k) world.free) 0) [
            | inr (d, t) ↦ let c = counted (IsOnNone stacks) (is_number k) world.free s.free (omega (arith, d)) in subst (λ n. stack_at stacks n ≢ Done) (eqb-true c.0 k c.1.0) (on_open None (stack_at stacks c.0) c.1.1)
            | inl (r, t) ↦ let c = counted (SleepsWithReply stacks) (first_is k) world.asleep s.asleep (omega (arith, p, q, r, h)) in subst (λ n. stack_at stacks n ≢ Done) (eqb-true c.0.0 k c.1.0) (reply_open (stack_at stacks c.0.0) c.1.1)
          ]
        ]
      ]

  pub runs_open : (world : World) (stacks : List (Stack Body)) (k : ℕ) → StandsBut [] world stacks → runs world k → stack_at stacks k ≢ Done
  runs_open world stacks k s r = is_open world stacks k s (omega (arith, r))

  ended_done : (world : World) (stacks : List (Stack Body)) (k : ℕ) → StandsBut [] world stacks → k < world.started → IsDone stacks k → how_many (is_number k) world.done ≡ 1
  ended_done world stacks k s started e =
      let o = s.once k started in
      elim (same_or_not (how_many (is_number k) world.done) 1) [
        | inl (p, t) ↦ p
        | inr (d, t) ↦ let h = is_open world stacks k s (omega (arith, o, d)) in absurd (h (done_of (stack_at stacks k) e))
      ]

  pub to_exclusive : (state : State Body) → StandsBut [] state.world state.stacks → Exclusive state
  to_exclusive state s = record {
    one_owner = s.one_owner;
    stacks = s.count;
    once = λ k h. let o = s.once k h in omega arith;
    none_else = λ k h. let o = s.none_else k h in omega arith;
    owners = s.owners;
    waiters = s.waiters;
    free = s.free;
    asleep = s.asleep;
    done = s.done;
    ended = λ k started e. ended_done state.world state.stacks k s started e;
  }

  -- what else changes in a world changes nothing of this
  pub with_rest : (away : List ℕ) (world : World) (stacks : List (Stack Body)) (turn : ℕ) (last : Option ℕ) (instances : List Instance) (arrays : List ArrayState) (devices : List DeviceState) (output : List Line) → StandsBut away world stacks → StandsBut away (record world { turn = turn; last = last; instances = instances; arrays = arrays; devices = devices; output = output }) stacks
  with_rest away world stacks turn last instances arrays devices output s = record {
    one_owner = s.one_owner;
    count = s.count;
    once = s.once;
    none_else = s.none_else;
    owners = s.owners;
    waiters = s.waiters;
    free = s.free;
    asleep = s.asleep;
    done = s.done;
  }

-- ---- sums of the five counts
-- a stack that owns an instance or is free lets go
went_once : (t : Bool) (o w f a d : ℕ) → (t ≡ true → 1 ≤ o + f) → o + w + f + a + d + 0 ≡ 1 → cond t 0 o + w + cond t 0 f + a + d + (cond t 1 0 + 0) ≡ 1
went_once true o w f a d r h = let p = r refl in omega arith
went_once false o w f a d r h = omega arith

went_none : (t : Bool) (o w f a d : ℕ) → (t ≡ true → 1 ≤ o + f) → o + w + f + a + d + 0 ≡ 0 → cond t 0 o + w + cond t 0 f + a + d + (cond t 1 0 + 0) ≡ 0
went_none true o w f a d r h = let p = r refl in absurd (omega arith)
went_none false o w f a d r h = omega arith

-- a stack that waits becomes the owner
took : (t : Bool) (o w f a d n : ℕ) → (t ≡ true → 1 ≤ w) → (n ≤ 1) → o + w + f + a + d + 0 ≡ n → (cond t 1 0 + o) + cond t 0 w + f + a + d + 0 ≡ n
took true o w f a d n r b h = let p = r refl in omega arith
took false o w f a d n r b h = omega arith

runs_as : (world : World) (k n : ℕ) → runs world k → eqb k n ≡ true → runs world n
runs_as world k n r t = subst (λ m. runs world m) (eqb-true k n t) r

module _ {Body : Type 0} where
  -- ---- letting go
  pub let_go_stands : (world : World) (stacks : List (Stack Body)) (k : ℕ) → runs world k → StandsBut [] world stacks → StandsBut (k ∷ []) (let_go k world) stacks
  let_go_stands world stacks k r s = record {
    one_owner = λ i. let h = how_many-filter (first_is i) (second_is_other k) world.owners in let b = s.one_owner i in omega arith;
    count = s.count;
    once = λ n h. rw (how_many-without_second k n world.owners, how_many-without_number k n world.free) (went_once (eqb k n) (how_many (second_is n) world.owners) (how_many (second_is n) world.waiters) (how_many (is_number n) world.free) (how_many (first_is n) world.asleep) (how_many (is_number n) world.done) (runs_as world k n r) (s.once n h));
    none_else = λ n h. rw (how_many-without_second k n world.owners, how_many-without_number k n world.free) (went_none (eqb k n) (how_many (second_is n) world.owners) (how_many (second_is n) world.waiters) (how_many (is_number n) world.free) (how_many (first_is n) world.asleep) (how_many (is_number n) world.done) (runs_as world k n r) (s.none_else n h));
    owners = all-filter (IsOnInstance stacks) (second_is_other k) world.owners s.owners;
    waiters = s.waiters;
    free = all-filter (IsOnNone stacks) (is_other k) world.free s.free;
    asleep = s.asleep;
    done = s.done;
  }

  -- ---- coming to a place
  pub wait_stands : (world : World) (stacks : List (Stack Body)) (k : ℕ) (away : List ℕ) (instance : Option ℕ) → IsOn instance (stack_at stacks k) → StandsBut (k ∷ away) world stacks → StandsBut away (goes_to_wait k instance world) stacks
  wait_stands world stacks k away None e s = record {
    one_owner = s.one_owner;
    count = s.count;
    once = λ n h. let c = how_many-with_number (is_number n) k world.free in let o = s.once n h in omega arith;
    none_else = λ n h. let c = how_many-with_number (is_number n) k world.free in let o = s.none_else n h in omega arith;
    owners = s.owners;
    waiters = s.waiters;
    free = all-with_number (IsOnNone stacks) k world.free e s.free;
    asleep = s.asleep;
    done = s.done;
  }
  wait_stands world stacks k away (Some i) e s = record {
    one_owner = s.one_owner;
    count = s.count;
    once = λ n h. let c = how_many-append (second_is n) world.waiters ((i, k) ∷ []) in let o = s.once n h in omega arith;
    none_else = λ n h. let c = how_many-append (second_is n) world.waiters ((i, k) ∷ []) in let o = s.none_else n h in omega arith;
    owners = s.owners;
    waiters = all-append (IsOnInstance stacks) world.waiters (i, k) s.waiters e;
    free = s.free;
    asleep = s.asleep;
    done = s.done;
  }

  pub sleep_stands : (world : World) (stacks : List (Stack Body)) (k due : ℕ) (away : List ℕ) → HasReply (stack_at stacks k) → StandsBut (k ∷ away) world stacks → StandsBut away (sleeps k due world) stacks
  sleep_stands world stacks k due away r s = record {
    one_owner = s.one_owner;
    count = s.count;
    once = λ n h. let c = how_many-with_pair (first_is n) (k, due) world.asleep in let o = s.once n h in omega arith;
    none_else = λ n h. let c = how_many-with_pair (first_is n) (k, due) world.asleep in let o = s.none_else n h in omega arith;
    owners = s.owners;
    waiters = s.waiters;
    free = s.free;
    asleep = all-with_pair (SleepsWithReply stacks) (k, due) world.asleep r s.asleep;
    done = s.done;
  }

  pub end_stands : (world : World) (stacks : List (Stack Body)) (k : ℕ) (away : List ℕ) → IsDone stacks k → StandsBut (k ∷ away) world stacks → StandsBut away (ends k world) stacks
  end_stands world stacks k away e s = record {
    one_owner = s.one_owner;
    count = s.count;
    once = λ n h. let c = how_many-with_number (is_number n) k world.done in let o = s.once n h in omega arith;
    none_else = λ n h. let c = how_many-with_number (is_number n) k world.done in let o = s.none_else n h in omega arith;
    owners = s.owners;
    waiters = s.waiters;
    free = s.free;
    asleep = s.asleep;
    done = all-with_number (IsDone stacks) k world.done e s.done;
  }

-- ---- taking an instance
or_true : (a b : Bool) → a || b ≡ true → (a ≡ true) ⊎ (b ≡ true)
or_true true b h = inl refl
or_true false b h = inr h

not_first : (a b : Bool) → not a && b ≡ true → a ≡ false
not_first true b h = absurd (cc)
not_first false b h = refl

self_equal : (k : ℕ) → eqb k k ≡ true
self_equal k = elim (same_or_not k k) [ inl h ↦ h.1 | inr h ↦ absurd (h.0 refl) ]

one_more_owner : (t : Bool) (c : ℕ) → (t ≡ true → c ≡ 0) → c ≤ 1 → cond t 1 0 + c ≤ 1
one_more_owner true c z h = let e = z refl in omega arith
one_more_owner false c z h = omega arith

taken_runs : (world : World) (k i : ℕ) → runs (becomes_owner k (Some i) world) k
taken_runs world k i =
    let c = how_many-with_pair (second_is k) (i, k) world.owners in
    let t = self_equal k in
    let d : how_many (second_is k) (with_pair (i, k) world.owners) ≡ cond true 1 0 + how_many (second_is k) world.owners = subst (λ b. how_many (second_is k) (with_pair (i, k) world.owners) ≡ cond b 1 0 + how_many (second_is k) world.owners) t c in
    omega arith

module _ {Body : Type 0} where
  pub has_started : (world : World) (stacks : List (Stack Body)) (k : ℕ) → StandsBut [] world stacks → 1 ≤ standings world k → k < world.started
  has_started world stacks k s r =
      elim (ltb k world.started) as (λ t. ltb k world.started ≡ t → k < world.started) [
        | true ↦ λ e. ltb-true k world.started e
        | false ↦ λ e. let z = s.none_else k (ltb-false k world.started e) in absurd (omega arith)
      ] refl

  taken_none : (world : World) (stacks : List (Stack Body)) (k : ℕ) → waited_for k world.waiters ≡ None → is_ready world k ≡ true → runs world k
  taken_none world stacks k e ready =
      elim (or_true (list_any (second_is k) world.owners || list_any (is_number k) world.free) (is_next world k (waited_for k world.waiters)) ready) [
        | inl ab ↦ elim (or_true (list_any (second_is k) world.owners) (list_any (is_number k) world.free) ab) [
          | inl a ↦ let n = some_pass (second_is k) world.owners a in omega arith
          | inr b ↦ let n = some_pass (is_number k) world.free b in omega arith
        ]
        | inr c ↦ absurd (let d : is_next world k None ≡ true = subst (λ o. is_next world k o ≡ true) e c in cc)
      ]

  -- the instance that a ready stack waits for has no owner
  unowned : (world : World) (stacks : List (Stack Body)) (k i : ℕ) → waited_for k world.waiters ≡ Some i → is_ready world k ≡ true → StandsBut [] world stacks → how_many (first_is i) world.owners ≡ 0
  unowned world stacks k i e ready s =
      let w = waits_for k world.waiters i (IsOnInstance stacks) s.waiters e in
      let started : k < world.started = has_started world stacks k s (omega (arith, w.0)) in
      let o = s.once k started in
      elim (or_true (list_any (second_is k) world.owners || list_any (is_number k) world.free) (is_next world k (waited_for k world.waiters)) ready) [
        | inl ab ↦ elim (or_true (list_any (second_is k) world.owners) (list_any (is_number k) world.free) ab) [
          | inl a ↦ let n = some_pass (second_is k) world.owners a in absurd (omega (arith, w.0))
          | inr b ↦ let n = some_pass (is_number k) world.free b in absurd (omega (arith, w.0))
        ]
        | inr c ↦
            let d : is_next world k (Some i) ≡ true = subst (λ o. is_next world k o ≡ true) e c in
            none_pass (first_is i) world.owners (not_first (is_owned world i) (is_stack k (stack_of world.waiters i)) d)
      ]

  taken_some : (world : World) (stacks : List (Stack Body)) (k i : ℕ) → waited_for k world.waiters ≡ Some i → is_ready world k ≡ true → StandsBut [] world stacks → StandsBut [] (becomes_owner k (Some i) world) stacks
  taken_some world stacks k i e ready s =
      let w = waits_for k world.waiters i (IsOnInstance stacks) s.waiters e in
      let z = unowned world stacks k i e ready s in
      let waiting : (n : ℕ) → eqb k n ≡ true → 1 ≤ how_many (second_is n) world.waiters = λ n t. subst (λ m. 1 ≤ how_many (second_is m) world.waiters) (eqb-true k n t) w.0 in record {
        one_owner = λ j. rw (how_many-with_pair (first_is j) (i, k) world.owners) (one_more_owner (eqb i j) (how_many (first_is j) world.owners) (λ t. subst (λ m. how_many (first_is m) world.owners ≡ 0) (eqb-true i j t) z) (s.one_owner j));
        count = s.count;
        once = λ n h. rw (how_many-with_pair (second_is n) (i, k) world.owners, how_many-without_second k n world.waiters) (took (eqb k n) (how_many (second_is n) world.owners) (how_many (second_is n) world.waiters) (how_many (is_number n) world.free) (how_many (first_is n) world.asleep) (how_many (is_number n) world.done) 1 (waiting n) (omega arith) (s.once n h));
        none_else = λ n h. rw (how_many-with_pair (second_is n) (i, k) world.owners, how_many-without_second k n world.waiters) (took (eqb k n) (how_many (second_is n) world.owners) (how_many (second_is n) world.waiters) (how_many (is_number n) world.free) (how_many (first_is n) world.asleep) (how_many (is_number n) world.done) 0 (waiting n) (omega arith) (s.none_else n h));
        owners = all-with_pair (IsOnInstance stacks) (i, k) world.owners w.1 s.owners;
        waiters = all-filter (IsOnInstance stacks) (second_is_other k) world.waiters s.waiters;
        free = s.free;
        asleep = s.asleep;
        done = s.done;
      }

  taken : (world : World) (stacks : List (Stack Body)) (k : ℕ) (o : Option ℕ) → waited_for k world.waiters ≡ o → is_ready world k ≡ true → StandsBut [] world stacks → StandsBut [] (becomes_owner k o world) stacks × runs (becomes_owner k o world) k
  taken world stacks k None e ready s = (s, taken_none world stacks k e ready)
  taken world stacks k (Some i) e ready s = (taken_some world stacks k i e ready s, taken_runs world k i)

  pub take_stands : (world : World) (stacks : List (Stack Body)) (k : ℕ) → is_ready world k ≡ true → StandsBut [] world stacks → StandsBut [] (takes k world) stacks × runs (takes k world) k
  take_stands world stacks k ready s = taken world stacks k (waited_for k world.waiters) refl ready s

-- ---- a new stack in the place of one
not_equal : (a b : ℕ) → eqb a b ≡ false → a ≢ b
not_equal a b t = eqb-false a b t

module _ {Body : Type 0} where
  other_stack : (stacks : List (Stack Body)) (k n : ℕ) (stack : Stack Body) → eqb n k ≡ false → stack_at (slice_set stacks k stack) n ≡ stack_at stacks n
  other_stack stacks k n stack t = get_or-set_other stacks k n stack Done (not_equal n k t)

  pub own_stack : (stacks : List (Stack Body)) (k : ℕ) (stack : Stack Body) → k < length stacks → stack_at (slice_set stacks k stack) k ≡ stack
  own_stack stacks k stack h = get_or-set_same stacks k stack Done h

  same_on : (stacks : List (Stack Body)) (k n : ℕ) (own instance : Option ℕ) (stack : Stack Body) → k < length stacks → IsOn own (stack_at stacks k) → IsOn own stack → IsOn instance (stack_at stacks n) → IsOn instance (stack_at (slice_set stacks k stack) n)
  same_on stacks k n own instance stack h was now a =
      elim (same_or_not n k) [
        | inl (p, t) ↦
            let before : IsOn instance (stack_at stacks k) = subst (λ m. IsOn instance (stack_at stacks m)) p a in
            let after : IsOn instance stack = on_as instance own (stack_at stacks k) stack was now before in
            subst (λ m. IsOn instance (stack_at (slice_set stacks k stack) m)) (sym p) (subst (λ st. IsOn instance st) (sym (own_stack stacks k stack h)) after)
        | inr (p, t) ↦ subst (λ st. IsOn instance st) (sym (other_stack stacks k n stack t)) a
      ]

  -- the innermost frame keeps its instance
  pub kept_stands : (world : World) (stacks : List (Stack Body)) (k : ℕ) (own : Option ℕ) (stack : Stack Body) → runs world k → IsOn own (stack_at stacks k) → IsOn own stack → StandsBut [] world stacks → StandsBut [] world (slice_set stacks k stack)
  kept_stands world stacks k own stack r was now s =
      let started : k < world.started = has_started world stacks k s (omega (arith, r)) in
      let o = s.once k started in
      let inside : k < length stacks = omega (arith, s.count) in
      let not_done : how_many (is_number k) world.done ≡ 0 = omega (arith, r) in
      let not_asleep : how_many (first_is k) world.asleep ≡ 0 = omega (arith, r) in
      let on = λ (n : ℕ) (instance : Option ℕ). same_on stacks k n own instance stack inside was now in record {
        one_owner = s.one_owner;
        count = length-set stacks k stack ∙ s.count;
        once = s.once;
        none_else = s.none_else;
        owners = all_step world.owners (λ p a. on p.1 (Some p.0) a) s.owners;
        waiters = all_step world.waiters (λ p a. on p.1 (Some p.0) a) s.waiters;
        free = all_step world.free (λ n a. on n None a) s.free;
        asleep = all_others (first_is k) world.asleep not_asleep (λ p t a. subst (λ st. HasReply st) (sym (other_stack stacks k p.0 stack t)) a) s.asleep;
        done = all_others (is_number k) world.done not_done (λ n t a. ap is_done (other_stack stacks k n stack t) ∙ a) s.done;
      }

  -- a stack that stands nowhere may have any frames
  pub away_stands : (world : World) (stacks : List (Stack Body)) (k : ℕ) (stack : Stack Body) → k < world.started → StandsBut (k ∷ []) world stacks → StandsBut (k ∷ []) world (slice_set stacks k stack)
  away_stands world stacks k stack started s =
      let t = self_equal k in
      let o : standings world k + (cond true 1 0 + 0) ≡ 1 = subst (λ b. standings world k + (cond b 1 0 + 0) ≡ 1) t (s.once k started) in
      let no_owner : how_many (second_is k) world.owners ≡ 0 = omega (arith, o) in
      let no_waiter : how_many (second_is k) world.waiters ≡ 0 = omega (arith, o) in
      let not_free : how_many (is_number k) world.free ≡ 0 = omega (arith, o) in
      let not_asleep : how_many (first_is k) world.asleep ≡ 0 = omega (arith, o) in
      let not_done : how_many (is_number k) world.done ≡ 0 = omega (arith, o) in record {
        one_owner = s.one_owner;
        count = length-set stacks k stack ∙ s.count;
        once = s.once;
        none_else = s.none_else;
        owners = all_others (second_is k) world.owners no_owner (λ p t a. subst (λ st. IsOn (Some p.0) st) (sym (other_stack stacks k p.1 stack t)) a) s.owners;
        waiters = all_others (second_is k) world.waiters no_waiter (λ p t a. subst (λ st. IsOn (Some p.0) st) (sym (other_stack stacks k p.1 stack t)) a) s.waiters;
        free = all_others (is_number k) world.free not_free (λ n t a. subst (λ st. IsOn None st) (sym (other_stack stacks k n stack t)) a) s.free;
        asleep = all_others (first_is k) world.asleep not_asleep (λ p t a. subst (λ st. HasReply st) (sym (other_stack stacks k p.0 stack t)) a) s.asleep;
        done = all_others (is_number k) world.done not_done (λ n t a. ap is_done (other_stack stacks k n stack t) ∙ a) s.done;
      }
