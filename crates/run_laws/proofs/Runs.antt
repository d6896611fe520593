-- Runs keep each stack in one place, and some stack is ready where one waits, owns or is free.
use Rattle.std.proofs.Common.{◌≡◌, ◌≢◌, ℕ, zero, suc, ◌+◌, ◌<◌, ◌≤◌, ◌==◌, Bool, true, false, cond, not, ◌&&◌, ◌||◌, List, [], ◌∷◌, ◌++◌, map, Option, Some, None, refl, sym, ap, subst, ◌∙◌, inl, inr, arith, length-append}
use Rattle.std.specs.Prelude.{length, slice_get}
use Rattle.std.specs.List.{filter, find, list_any, AllByRecursion}
use Rattle.std.proofs.lemmas.Bool.{eqb-true, eqb-false}
use Rattle.std.proofs.Math.Dec.{eqb}
use Rattle.core_tree.specs.declared.DeviceKind.{DeviceKind}
use Rattle.core_tree.specs.Outlines.{ScriptShape}
use Rattle.core_tree.specs.Scenes.{SceneShape, CallShape, OrderShape, Round, Listed}
use Rattle.run_laws.specs.Exclusive.{how_many, is_number, first_is, standings, IsOn, HasReply, SleepsWithReply, is_done, Exclusive}
use Rattle.script_meaning.specs.First.{first_state}
use Rattle.script_meaning.specs.Locks.{second_is, goes_to_wait, waited_for, stack_of, is_owned, is_stack, is_next, is_ready}
use Rattle.script_meaning.specs.Stacks.{ByMethod, Stack, ToEnter, Engine, State, stack_at, inner_instance}
use Rattle.script_meaning.specs.Turns.{call_started, calls_started, is_due, not_due, all_wait, begun, round, if_ready, chosen, has_ended, chosen_turned, step, states_from}
use Rattle.script_meaning.specs.World.{World}
use Rattle.run_laws.proofs.Counts.{same_or_not, how_many-split, how_many-firsts, passes_from_count, all-filter, all_others}
use Rattle.run_laws.proofs.Standing.{StandsBut, reply_open, is_on_inner, started_or_not, from_exclusive, to_exclusive, with_rest, wait_stands}
use Rattle.run_laws.proofs.Steps.{turned_stands}

-- ---- one more stack
appended : {Body : Type 0} (stacks : List (Stack Body)) (stack : Stack Body) (n : ℕ) → n ≢ length stacks → stack_at (stacks ++ stack ∷ []) n ≡ stack_at stacks n
appended [] stack zero d = absurd (d refl)
appended [] stack (suc n) d = refl
appended (first ∷ stacks) stack zero d = refl
appended (first ∷ stacks) stack (suc n) d = appended stacks stack n (λ e. d (omega arith))

last_stack : {Body : Type 0} (stacks : List (Stack Body)) (stack : Stack Body) → stack_at (stacks ++ stack ∷ []) (length stacks) ≡ stack
last_stack [] stack = refl
last_stack (first ∷ stacks) stack = last_stack stacks stack

joined_once : (t : Bool) (c : ℕ) → (t ≡ true → c ≡ 0) → (t ≡ false → c ≡ 1) → c + (cond t 1 0 + 0) ≡ 1
joined_once true c p q = let e = p refl in omega arith
joined_once false c p q = let e = q refl in omega arith

module _ {Body : Type 0} where
  same_before : (world : World) (stacks : List (Stack Body)) (stack : Stack Body) (n : ℕ) → length stacks ≡ world.started → eqb n world.started ≡ false → stack_at (stacks ++ stack ∷ []) n ≡ stack_at stacks n
  same_before world stacks stack n c t = appended stacks stack n (λ e. eqb-false n world.started t (e ∙ c))

  one_more : (world : World) (stacks : List (Stack Body)) (stack : Stack Body) → StandsBut [] world stacks → StandsBut (world.started ∷ []) (record world { started = world.started + 1 }) (stacks ++ stack ∷ [])
  one_more world stacks stack s =
      let z = s.none_else world.started (omega arith) in
      let no_owner : how_many (second_is world.started) world.owners ≡ 0 = omega arith in
      let no_waiter : how_many (second_is world.started) world.waiters ≡ 0 = omega arith in
      let not_free : how_many (is_number world.started) world.free ≡ 0 = omega arith in
      let not_asleep : how_many (first_is world.started) world.asleep ≡ 0 = omega arith in
      let not_done : how_many (is_number world.started) world.done ≡ 0 = omega arith in record {
        one_owner = s.one_owner;
        count = length-append stacks (stack ∷ []) ∙ ap (λ n. n + 1) s.count;
        once = λ n h. joined_once (eqb world.started n) (standings world n) (λ t. let e = eqb-true world.started n t in let o = s.none_else n (omega arith) in omega arith) (λ t. let d = eqb-false world.started n t in let o = s.once n (omega (arith, d)) in omega arith);
        none_else = λ n h. elim (same_or_not world.started n) [
          | inl (e, t) ↦ absurd (omega arith)
          | inr (d, t) ↦ let o = s.none_else n (omega arith) in rw t (omega arith)
        ];
        owners = all_others (second_is world.started) world.owners no_owner (λ p t a. subst (λ st. IsOn (Some p.0) st) (sym (same_before world stacks stack p.1 s.count t)) a) s.owners;
        waiters = all_others (second_is world.started) world.waiters no_waiter (λ p t a. subst (λ st. IsOn (Some p.0) st) (sym (same_before world stacks stack p.1 s.count t)) a) s.waiters;
        free = all_others (is_number world.started) world.free not_free (λ n t a. subst (λ st. IsOn None st) (sym (same_before world stacks stack n s.count t)) a) s.free;
        asleep = all_others (first_is world.started) world.asleep not_asleep (λ p t a. subst (λ st. HasReply st) (sym (same_before world stacks stack p.0 s.count t)) a) s.asleep;
        done = all_others (is_number world.started) world.done not_done (λ n t a. ap is_done (same_before world stacks stack n s.count t) ∙ a) s.done;
      }

  abbrev pub Stands : State Body → Type 0
  Stands state = StandsBut [] state.world state.stacks

  call_stands : (state : State Body) (call : CallShape) → Stands state → Stands (call_started state call)
  call_stands state call s =
      let stack : Stack Body = ToEnter (Some call.instance) (ByMethod call.function) call.arguments [] in
      let last : stack_at (state.stacks ++ stack ∷ []) state.world.started ≡ stack = subst (λ n. stack_at (state.stacks ++ stack ∷ []) n ≡ stack) s.count (last_stack state.stacks stack) in
      let inner : IsOn (Some call.instance) (stack_at (state.stacks ++ stack ∷ []) state.world.started) = subst (λ st. IsOn (Some call.instance) st) (sym last) refl in
      wait_stands (record state.world { started = state.world.started + 1 }) (state.stacks ++ stack ∷ []) state.world.started [] (Some call.instance) inner (one_more state.world state.stacks stack s)

  either_stands : (now : Bool) (one other : State Body) → Stands one → Stands other → Stands (cond now one other)
  either_stands true one other a b = a
  either_stands false one other a b = b

  calls_stand : (calls : List CallShape) (state : State Body) → Stands state → Stands (calls_started calls state)
  calls_stand [] state s = s
  calls_stand (call ∷ rest) state s =
      calls_stand rest (cond (eqb call.turn state.world.turn) (call_started state call) state) (either_stands (eqb call.turn state.world.turn) (call_started state call) state (call_stands state call s) s)

  -- ---- sleepers
  all_wait_stands : (stacks : List (Stack Body)) (sleepers : List (ℕ × ℕ)) (world : World) → AllByRecursion (SleepsWithReply stacks) sleepers → StandsBut (map (λ p. p.0) sleepers) world stacks → StandsBut [] (all_wait stacks sleepers world) stacks
  all_wait_stands stacks [] world r s = s
  all_wait_stands stacks (first ∷ rest) world r s =
      all_wait_stands stacks rest (goes_to_wait first.0 (inner_instance (stack_at stacks first.0)) world) r.1 (wait_stands world stacks first.0 (map (λ p. p.0) rest) (inner_instance (stack_at stacks first.0)) (is_on_inner (stack_at stacks first.0) (reply_open (stack_at stacks first.0) r.0)) s)

  woken : (world : World) (stacks : List (Stack Body)) → StandsBut [] world stacks → StandsBut (map (λ p. p.0) (filter (is_due world.turn) world.asleep)) (record world { asleep = filter (not_due world.turn) world.asleep }) stacks
  woken world stacks s = record {
    one_owner = s.one_owner;
    count = s.count;
    once = λ n h. let p = how_many-split (first_is n) world.turn world.asleep in let q = how_many-firsts n (filter (is_due world.turn) world.asleep) in let o = s.once n h in omega arith;
    none_else = λ n h. let p = how_many-split (first_is n) world.turn world.asleep in let q = how_many-firsts n (filter (is_due world.turn) world.asleep) in let o = s.none_else n h in omega arith;
    owners = s.owners;
    waiters = s.waiters;
    free = s.free;
    asleep = all-filter (SleepsWithReply stacks) (not_due world.turn) world.asleep s.asleep;
    done = s.done;
  }

  pub begun_stands : (scene : SceneShape) (state : State Body) → Stands state → Stands (begun scene state)
  begun_stands scene state s =
      let after = calls_started scene.calls state in
      let t = calls_stand scene.calls state s in
      all_wait_stands after.stacks (filter (is_due after.world.turn) after.world.asleep) (record after.world { asleep = filter (not_due after.world.turn) after.world.asleep }) (all-filter (SleepsWithReply after.stacks) (is_due after.world.turn) after.world.asleep t.asleep) (woken after.world after.stacks t)

-- ---- the choice
found_passes : (test : ℕ → Bool) (here : Bool) (n : ℕ) (rest : Option ℕ) (k : ℕ) → test n ≡ here → (rest ≡ Some k → test k ≡ true) → cond here (Some n) rest ≡ Some k → test k ≡ true
found_passes test true n rest k e p h = subst (λ m. test m ≡ true) (cc) e
found_passes test false n rest k e p h = p h

find_passes : (test : ℕ → Bool) (ns : List ℕ) (k : ℕ) → find test ns ≡ Some k → test k ≡ true
find_passes test [] k h = absurd (cc)
find_passes test (n ∷ ns) k h = found_passes test (test n) n (find test ns) k refl (find_passes test ns k) h

listed_ready : (world : World) (o : Option ℕ) (k : ℕ) → if_ready world o ≡ Some k → is_ready world k ≡ true
listed_ready world None k h = absurd (cc)
listed_ready world (Some n) k h = found_passes (is_ready world) (is_ready world n) n None k refl (λ e. absurd (cc)) h

pub chosen_ready : (order : OrderShape) (world : World) (k : ℕ) → chosen order world ≡ Some k → is_ready world k ≡ true
chosen_ready Round world k h = find_passes (is_ready world) (round world) k h
chosen_ready (Listed stacks) world k h = listed_ready world (slice_get stacks world.turn) k h

-- ---- runs
module _ {Body : Type 0} where
  chosen_stands : (scene : SceneShape) (engine : Engine Body) (state : State Body) (o : Option ℕ) → ((k : ℕ) → o ≡ Some k → is_ready state.world k ≡ true) → Stands state → Stands (chosen_turned scene engine state o)
  chosen_stands scene engine state None ready s =
      with_rest [] state.world state.stacks (state.world.turn + 1) state.world.last state.world.instances state.world.arrays state.world.devices state.world.output s
  chosen_stands scene engine state (Some k) ready s = turned_stands scene engine state k (ready k refl) s

  step_stands : (scene : SceneShape) (engine : Engine Body) (state : State Body) → Stands state → Stands (step scene engine state)
  step_stands scene engine state s =
      let b = begun scene state in
      chosen_stands scene engine b (chosen scene.order b.world) (λ k e. chosen_ready scene.order b.world k e) (begun_stands scene state s)

  pub step_exclusive : (scene : SceneShape) (engine : Engine Body) (state : State Body) → Exclusive state → Exclusive (step scene engine state)
  step_exclusive scene engine state e = to_exclusive (step scene engine state) (step_stands scene engine state (from_exclusive state e))

  pub first_exclusive : (outline : List ScriptShape) (scene : SceneShape) (kinds : List DeviceKind) → Exclusive (first_state {Body = Body} outline scene kinds)
  first_exclusive outline scene kinds = record {
    one_owner = λ i. omega arith;
    stacks = refl;
    once = λ k h. absurd (omega arith);
    none_else = λ k h. refl;
    owners = tt;
    waiters = tt;
    free = tt;
    asleep = tt;
    done = tt;
    ended = λ k h e. absurd (omega arith);
  }

  pub begun_exclusive : (scene : SceneShape) (state : State Body) → Exclusive state → Exclusive (begun scene state)
  begun_exclusive scene state e = to_exclusive (begun scene state) (begun_stands scene state (from_exclusive state e))

  stopped_or_more : (ended : Bool) (P : State Body → Type 0) (more : List (State Body)) → AllByRecursion P more → AllByRecursion P (cond ended [] more)
  stopped_or_more true P more a = tt
  stopped_or_more false P more a = a

  pub states_exclusive : (scene : SceneShape) (engine : Engine Body) (left : ℕ) (state : State Body) → Exclusive state → AllByRecursion Exclusive (states_from scene engine left state)
  states_exclusive scene engine zero state e = (e, tt)
  states_exclusive scene engine (suc left) state e =
      (e, stopped_or_more (has_ended scene state.world) Exclusive (states_from scene engine left (step scene engine state)) (states_exclusive scene engine left (step scene engine state) (step_exclusive scene engine state e)))

-- ---- some stack is ready
or_left : (a b : Bool) → a ≡ true → a || b ≡ true
or_left a b e = rw e refl

or_right : (a b : Bool) → b ≡ true → a || b ≡ true
or_right true b e = refl
or_right false b e = e

and_both : (a b : Bool) → a ≡ true → b ≡ true → a && b ≡ true
and_both a b e f = rw e f

not_false : (a : Bool) → a ≡ false → not a ≡ true
not_false a e = rw e refl

owner_ready : (world : World) (k : ℕ) → 1 ≤ how_many (second_is k) world.owners → is_ready world k ≡ true
owner_ready world k h = or_left _ _ (or_left _ _ (passes_from_count (second_is k) world.owners h))

free_ready : (world : World) (k : ℕ) → 1 ≤ how_many (is_number k) world.free → is_ready world k ≡ true
free_ready world k h = or_left _ _ (or_right _ _ (passes_from_count (is_number k) world.free h))

-- an instance with an owner has a stack that owns it
owner_step : (here : Bool) (p : ℕ × ℕ) (ps : List (ℕ × ℕ)) (rest : Bool) → (rest ≡ true → (k : ℕ) × (1 ≤ how_many (second_is k) ps)) → here || rest ≡ true → (k : ℕ) × (1 ≤ how_many (second_is k) (p ∷ ps))
owner_step true p ps rest more h = (p.1, elim (same_or_not p.1 p.1) [ inl (e, t) ↦ rw t (omega arith) | inr (d, t) ↦ absurd (d refl) ])
owner_step false p ps rest more h = let m = more h in (m.0, omega (arith, m.1))

an_owner : (i : ℕ) (ps : List (ℕ × ℕ)) → list_any (λ p. p.0 == i) ps ≡ true → (k : ℕ) × (1 ≤ how_many (second_is k) ps)
an_owner i [] h = absurd (cc)
an_owner i (p ∷ ps) h = owner_step (eqb p.0 i) p ps (list_any (λ q. q.0 == i) ps) (an_owner i ps) h

-- a stack that waits has a first pair, and the instance of that has a first waiter
a_wait_step : (here : Bool) (p : ℕ × ℕ) (rest : Option ℕ) (c : ℕ) → (1 ≤ c → (i : ℕ) × (rest ≡ Some i)) → 1 ≤ cond here 1 0 + c → (i : ℕ) × (cond here (Some p.0) rest ≡ Some i)
a_wait_step true p rest c more h = (p.0, refl)
a_wait_step false p rest c more h = more (omega arith)

a_wait : (k : ℕ) (ps : List (ℕ × ℕ)) → 1 ≤ how_many (second_is k) ps → (i : ℕ) × (waited_for k ps ≡ Some i)
a_wait k [] h = absurd (omega arith)
a_wait k (p ∷ ps) h = a_wait_step (eqb p.1 k) p (waited_for k ps) (how_many (second_is k) ps) (a_wait k ps) h

-- the first waiter of an instance, which waits for no other where it has one pair alone
first_step : (i : ℕ) (p : ℕ × ℕ) (ps : List (ℕ × ℕ)) (here : Bool) → eqb p.0 i ≡ here → (j : ℕ) → (stack_of ps i ≡ Some j → (1 ≤ how_many (second_is j) ps) × (how_many (second_is j) ps ≤ 1 → waited_for j ps ≡ Some i)) → cond here (Some p.1) (stack_of ps i) ≡ Some j → (1 ≤ how_many (second_is j) (p ∷ ps)) × (how_many (second_is j) (p ∷ ps) ≤ 1 → waited_for j (p ∷ ps) ≡ Some i)
first_step i p ps true e j more h =
    let same : p.1 ≡ j = cc in
    elim (same_or_not p.1 j) [
      | inl (q, t) ↦ rw t (omega arith, λ l. ap (λ n. Some n) (eqb-true p.0 i e))
      | inr (d, t) ↦ absurd (d same)
    ]
first_step i p ps false e j more h =
    let m = more h in
    elim (same_or_not p.1 j) [
      | inl (q, t) ↦ rw t (omega arith, λ l. absurd (omega (arith, m.0)))
      | inr (d, t) ↦ rw t (omega (arith, m.0), λ l. m.1 (omega arith))
    ]

first_waits : (i : ℕ) (ps : List (ℕ × ℕ)) (j : ℕ) → stack_of ps i ≡ Some j → (1 ≤ how_many (second_is j) ps) × (how_many (second_is j) ps ≤ 1 → waited_for j ps ≡ Some i)
first_waits i [] j h = absurd (cc)
first_waits i (p ∷ ps) j h = first_step i p ps (eqb p.0 i) refl j (first_waits i ps j) h

-- an instance for which a stack waits has a first waiter
has_first_step : (k i : ℕ) (p : ℕ × ℕ) (ps : List (ℕ × ℕ)) (mine : Bool) → (waited_for k ps ≡ Some i → (j : ℕ) × (stack_of ps i ≡ Some j)) → cond mine (Some p.0) (waited_for k ps) ≡ Some i → (j : ℕ) × (cond (eqb p.0 i) (Some p.1) (stack_of ps i) ≡ Some j)
has_first_step k i p ps true more h =
    let same : p.0 ≡ i = cc in
    elim (same_or_not p.0 i) [ inl (q, t) ↦ (p.1, rw t refl) | inr (d, t) ↦ absurd (d same) ]
has_first_step k i p ps false more h =
    elim (same_or_not p.0 i) [ inl (q, t) ↦ (p.1, rw t refl) | inr (d, t) ↦ let m = more h in (m.0, rw t m.1) ]

has_first : (k i : ℕ) (ps : List (ℕ × ℕ)) → waited_for k ps ≡ Some i → (j : ℕ) × (stack_of ps i ≡ Some j)
has_first k i [] h = absurd (cc)
has_first k i (p ∷ ps) h = has_first_step k i p ps (eqb p.1 k) (has_first k i ps) h

stack_true : (j : ℕ) (o : Option ℕ) → o ≡ Some j → is_stack j o ≡ true
stack_true j o h = subst (λ p. is_stack j p ≡ true) (sym h) (elim (same_or_not j j) [ inl (p, t) ↦ t | inr (d, t) ↦ absurd (d refl) ])

next_true : (world : World) (j i : ℕ) → is_owned world i ≡ false → stack_of world.waiters i ≡ Some j → is_next world j (Some i) ≡ true
next_true world j i free h =
    and_both (not (is_owned world i)) (is_stack j (stack_of world.waiters i)) (not_false (is_owned world i) free) (stack_true j (stack_of world.waiters i) h)

module _ {Body : Type 0} where
  at_most_one : (state : State Body) (j : ℕ) → Exclusive state → standings state.world j ≤ 1
  at_most_one state j e =
      elim (same_or_not (standings state.world j) 0) [
        | inl (p, t) ↦ omega arith
        | inr (d, t) ↦ elim (started_or_not j state.world.started) [
          | inl h ↦ let o = e.once j h in omega arith
          | inr h ↦ let o = e.none_else j h in omega arith
        ]
      ]

  first_ready : (state : State Body) (i j : ℕ) → Exclusive state → is_owned state.world i ≡ false → stack_of state.world.waiters i ≡ Some j → is_ready state.world j ≡ true
  first_ready state i j e free h =
      let f = first_waits i state.world.waiters j h in
      let one = at_most_one state j e in
      let w : waited_for j state.world.waiters ≡ Some i = f.1 (omega (arith, one)) in
      let n : is_next state.world j (waited_for j state.world.waiters) ≡ true = subst (λ o. is_next state.world j o ≡ true) (sym w) (next_true state.world j i free h) in
      or_right (list_any (second_is j) state.world.owners || list_any (is_number j) state.world.free) (is_next state.world j (waited_for j state.world.waiters)) n

  waiter_ready : (state : State Body) (i : ℕ) (owned : Bool) → is_owned state.world i ≡ owned → (j : ℕ) → stack_of state.world.waiters i ≡ Some j → Exclusive state → (k : ℕ) × (is_ready state.world k ≡ true)
  waiter_ready state i true o j h e = let a = an_owner i state.world.owners o in (a.0, owner_ready state.world a.0 a.1)
  waiter_ready state i false o j h e = (j, first_ready state i j e o h)

  pub some_ready : (state : State Body) (k : ℕ) → Exclusive state → k < state.world.started → how_many (is_number k) state.world.done ≡ 0 → how_many (first_is k) state.world.asleep ≡ 0 → (j : ℕ) × (is_ready state.world j ≡ true)
  some_ready state k e started not_done not_asleep =
      let o = e.once k started in
      elim (same_or_not (how_many (second_is k) state.world.owners) 0) [
        | inr (d, t) ↦ (k, owner_ready state.world k (omega (arith, d)))
        | inl (p, t) ↦ elim (same_or_not (how_many (is_number k) state.world.free) 0) [
          | inr (d, s) ↦ (k, free_ready state.world k (omega (arith, d)))
          | inl (q, s) ↦
              let a = a_wait k state.world.waiters (omega arith) in
              let f = has_first k a.0 state.world.waiters a.1 in
              waiter_ready state a.0 (is_owned state.world a.0) refl f.0 f.1 e
        ]
      ]
