-- What a legal journal's lines show of the locks.
use Rattle.std.proofs.Common.{◌≡◌, ℕ, zero, suc, ◌<◌, ◌⊎◌, ◌&&◌, ◌||◌, Bool, true, false, List, [], ◌∷◌, ◌++◌, length, Option, Some, None, refl, sym, ap, subst, ◌∙◌, inl, inr, ⊎_elim, arith}
use Rattle.std.specs.Prelude.{not, ◌==◌, slice_get, slice_set}
use Rattle.std.proofs.lemmas.Bool.{false≢true, cond_both, and_parts, or_cases, eqb-true, eqb-false, eq-eqb, not-true, not-false, cases_eq}
use Rattle.std.proofs.lemmas.Option.{slice_get_past, slice_get_within}
use Rattle.run_replay.specs.declared.lock_move.LockMove.{LockMove}
use Rattle.run_replay.specs.declared.lock_move.LockMove.TheVariants as moves
use Rattle.run_replay.specs.declared.stack_place.StackPlace.{StackPlace}
use Rattle.run_replay.specs.declared.stack_place.StackPlace.TheVariants as places
use Rattle.run_replay.specs.declared.book.Stage.{Stage}
use Rattle.run_replay.specs.declared.book.Stage.TheVariants as stages
use Rattle.run_replay.specs.declared.book.Waiter.{Waiter}
use Rattle.run_replay.specs.Lines.{JournalLine, Heading, Instance, Turn, End, Moved}
use Rattle.run_replay.specs.Book.{Standing, start, place_of, is_due, is_between, is_free, holds, waits, nobody_holds, is_first, ready_at, wakes, begins, arrives, may_let_go, just_ran, stage_after, move_is_allowed, is_allowed, is_other, without_stack, moved, after, Leave, AreLegal}
use Rattle.run_replay.specs.Discipline.{Stands, OneHolder, InOrder, LetsGo}

-- places

get_other : (ps : List StackPlace) (k j : ℕ) (p : StackPlace) → (j ≡ k → ⊥) → slice_get (slice_set ps k p) j ≡ slice_get ps j
get_other [] k j p ne = refl
get_other (x ∷ xs) zero zero p ne = absurd (ne refl)
get_other (x ∷ xs) zero (suc j) p ne = refl
get_other (x ∷ xs) (suc k) zero p ne = refl
get_other (x ∷ xs) (suc k) (suc j) p ne = get_other xs k j p (λ e. ne (ap suc e))

get_same : (ps : List StackPlace) (k : ℕ) (p : StackPlace) → k < length ps → slice_get (slice_set ps k p) k ≡ Some p
get_same [] k p inside = absurd (omega arith)
get_same (x ∷ xs) zero p inside = refl
get_same (x ∷ xs) (suc k) p inside = get_same xs k p (omega arith)

get_push : (ps qs : List StackPlace) (j : ℕ) (p : StackPlace) → slice_get ps j ≡ Some p → slice_get (ps ++ qs) j ≡ Some p
get_push [] qs j p e = absurd (cc)
get_push (x ∷ xs) qs zero p e = e
get_push (x ∷ xs) qs (suc j) p e = get_push xs qs j p e

get_last : (ps : List StackPlace) (p : StackPlace) → slice_get (ps ++ p ∷ []) (length ps) ≡ Some p
get_last [] p = refl
get_last (x ∷ xs) p = get_last xs p

-- of two stacks whose places differ under a test, each is another
differ : (T : Option StackPlace → Bool) (ps : List StackPlace) (j k : ℕ) (p : StackPlace) → slice_get ps j ≡ Some p → T (Some p) ≡ false → T (slice_get ps k) ≡ true → j ≡ k → ⊥
differ T ps j k p here fails passes same =
    false≢true (sym fails ∙ ap T (sym here) ∙ ap (λ (n : ℕ). T (slice_get ps n)) same ∙ passes)

stays : (T : Option StackPlace → Bool) (ps : List StackPlace) (j k : ℕ) (p q : StackPlace) → slice_get ps j ≡ Some p → T (Some p) ≡ false → T (slice_get ps k) ≡ true → slice_get (slice_set ps k q) j ≡ Some p
stays T ps j k p q here fails passes = get_other ps k j q (differ T ps j k p here fails passes) ∙ here

-- neither waiting nor holding nor free
abbrev pub away : Option StackPlace → Bool
away (Some places.Free) = false
away (Some (places.Waits n)) = false
away (Some (places.Holds n)) = false
away (Some (places.Asleep n)) = true
away (Some places.Done) = false
away (Some places.Between) = true
away None = true

due_away : (turns : ℕ) (p : Option StackPlace) → is_due turns p ≡ true → away p ≡ true
due_away turns (Some places.Free) e = absurd (false≢true e)
due_away turns (Some (places.Waits n)) e = absurd (false≢true e)
due_away turns (Some (places.Holds n)) e = absurd (false≢true e)
due_away turns (Some (places.Asleep n)) e = refl
due_away turns (Some places.Done) e = absurd (false≢true e)
due_away turns (Some places.Between) e = refl
due_away turns None e = refl

between_away : (p : Option StackPlace) → is_between p ≡ true → away p ≡ true
between_away (Some places.Free) e = absurd (false≢true e)
between_away (Some (places.Waits n)) e = absurd (false≢true e)
between_away (Some (places.Holds n)) e = absurd (false≢true e)
between_away (Some (places.Asleep n)) e = refl
between_away (Some places.Done) e = absurd (false≢true e)
between_away (Some places.Between) e = refl
between_away None e = refl

due_some : (turns : ℕ) (ps : List StackPlace) (k : ℕ) → is_due turns (slice_get ps k) ≡ true → k < length ps
due_some turns [] k e = absurd (false≢true e)
due_some turns (x ∷ xs) zero e = omega arith
due_some turns (x ∷ xs) (suc k) e = let rest = due_some turns xs k e in omega arith

between_some : (ps : List StackPlace) (k : ℕ) → is_between (slice_get ps k) ≡ true → k < length ps
between_some [] k e = absurd (false≢true e)
between_some (x ∷ xs) zero e = omega arith
between_some (x ∷ xs) (suc k) e = let rest = between_some xs k e in omega arith

waits_is : (i : ℕ) (p : Option StackPlace) → waits i p ≡ true → p ≡ Some (places.Waits i)
waits_is i (Some places.Free) e = absurd (false≢true e)
waits_is i (Some (places.Waits n)) e = ap (λ (n : ℕ). Some (places.Waits n)) (eqb-true n i e)
waits_is i (Some (places.Holds n)) e = absurd (false≢true e)
waits_is i (Some (places.Asleep n)) e = absurd (false≢true e)
waits_is i (Some places.Done) e = absurd (false≢true e)
waits_is i (Some places.Between) e = absurd (false≢true e)
waits_is i None e = absurd (false≢true e)

holds_is : (i : ℕ) (p : Option StackPlace) → holds i p ≡ true → p ≡ Some (places.Holds i)
holds_is i (Some places.Free) e = absurd (false≢true e)
holds_is i (Some (places.Waits n)) e = absurd (false≢true e)
holds_is i (Some (places.Holds n)) e = ap (λ (n : ℕ). Some (places.Holds n)) (eqb-true n i e)
holds_is i (Some (places.Asleep n)) e = absurd (false≢true e)
holds_is i (Some places.Done) e = absurd (false≢true e)
holds_is i (Some places.Between) e = absurd (false≢true e)
holds_is i None e = absurd (false≢true e)

wakes_due : (s : Standing) (stage : Stage) (k : ℕ) → wakes s stage k ≡ true → is_due s.turns (place_of s k) ≡ true
wakes_due s stages.Start k e = absurd (false≢true e)
wakes_due s stages.Instances k e = absurd (false≢true e)
wakes_due s stages.Begun k e = e
wakes_due s (stages.Woken n) k e = (and_parts _ _ e).1
wakes_due s (stages.Ran n) k e = absurd (false≢true e)
wakes_due s (stages.Acting n) k e = absurd (false≢true e)
wakes_due s (stages.Left n) k e = absurd (false≢true e)
wakes_due s stages.Idle k e = absurd (false≢true e)
wakes_due s stages.Ended k e = absurd (false≢true e)

begins_last : (s : Standing) (stage : Stage) (k : ℕ) → begins s stage k ≡ true → k ≡ length s.places
begins_last s stages.Start k e = absurd (false≢true e)
begins_last s stages.Instances k e = absurd (false≢true e)
begins_last s stages.Begun k e = eqb-true k (length s.places) e
begins_last s (stages.Woken n) k e = absurd (false≢true e)
begins_last s (stages.Ran n) k e = absurd (false≢true e)
begins_last s (stages.Acting n) k e = absurd (false≢true e)
begins_last s (stages.Left n) k e = absurd (false≢true e)
begins_last s stages.Idle k e = absurd (false≢true e)
begins_last s stages.Ended k e = absurd (false≢true e)

arrives_between : (s : Standing) (k : ℕ) → arrives s k ≡ true → is_between (place_of s k) ≡ true
arrives_between s k e = (and_parts _ _ e).1

-- a stack that is woken or finds a place was away, and has begun
record WasAway (s : Standing) (k : ℕ) : Type 0 where
  away : away (place_of s k) ≡ true
  begun : k < length s.places

arrived : (s : Standing) (k : ℕ) → arrives s k ≡ true → WasAway s k
arrived s k there = let b = arrives_between s k there in record { away = between_away (place_of s k) b; begun = between_some s.places k b }

was_away : (s : Standing) (k : ℕ) → (wakes s s.stage k || arrives s k) ≡ true → WasAway s k
was_away s k e = ⊎_elim
    (λ woken. let due = wakes_due s s.stage k woken in record { away = due_away s.turns (place_of s k) due; begun = due_some s.turns s.places k due })
    (λ there. arrived s k there)
    (or_cases _ _ e)

-- a stack that joins was away, or begins
joins : (s : Standing) (k : ℕ) → (begins s s.stage k || (wakes s s.stage k || arrives s k)) ≡ true → (k ≡ length s.places) ⊎ WasAway s k
joins s k e = ⊎_elim (λ new. inl (begins_last s s.stage k new)) (λ old. inr (was_away s k old)) (or_cases _ _ e)

joins_away : (s : Standing) (k : ℕ) → (begins s s.stage k || (wakes s s.stage k || arrives s k)) ≡ true → away (place_of s k) ≡ true
joins_away s k e = ⊎_elim
    (λ new. ap away (slice_get_past s.places k (omega (arith, new))))
    (λ (old : WasAway s k). old.away)
    (joins s k e)

-- a place that isn't away stays where another stack joins
join_stays : (s : Standing) (k i j : ℕ) (p : StackPlace) → move_is_allowed s (moves.Join k i) ≡ true → away (Some p) ≡ false → place_of s j ≡ Some p → place_of (moved s (moves.Join k i)) j ≡ Some p
join_stays s k i j p allowed there here =
    cond_both (k == length s.places) (s.places ++ places.Waits i ∷ []) (slice_set s.places k (places.Waits i)) (λ (qs : List StackPlace). slice_get qs j ≡ Some p)
    (λ new. get_push s.places (places.Waits i ∷ []) j p here)
    (λ old. stays away s.places j k p (places.Waits i) here there (joins_away s k allowed))

join_waits : (s : Standing) (k i : ℕ) → move_is_allowed s (moves.Join k i) ≡ true → place_of (moved s (moves.Join k i)) k ≡ Some (places.Waits i)
join_waits s k i allowed =
    cond_both (k == length s.places) (s.places ++ places.Waits i ∷ []) (slice_set s.places k (places.Waits i)) (λ (qs : List StackPlace). slice_get qs k ≡ Some (places.Waits i))
    (λ new. ap (λ (n : ℕ). slice_get (s.places ++ places.Waits i ∷ []) n) (eqb-true k (length s.places) new) ∙ get_last s.places (places.Waits i))
    (λ old. get_same s.places k (places.Waits i) (⊎_elim (λ new. absurd (eqb-false k (length s.places) old new)) (λ (was : WasAway s k). was.begun) (joins s k allowed)))

-- a holder holds until it releases
holds_move : (s : Standing) (m : LockMove) (j i : ℕ) → move_is_allowed s m ≡ true → place_of s j ≡ Some (places.Holds i) → (m ≡ moves.Release j i) ⊎ (place_of (moved s m) j ≡ Some (places.Holds i))
holds_move s (moves.Join k n) j i allowed here = inr (join_stays s k n j (places.Holds i) allowed refl here)
holds_move s (moves.Take k n) j i allowed here = inr (stays (waits n) s.places j k (places.Holds i) (places.Holds n) here refl (and_parts _ _ allowed).1)
holds_move s (moves.Release k n) j i allowed here = ⊎_elim
    (λ same. inl (released same))
    (λ other. inr (get_other s.places k j places.Between other ∙ here))
    (cases_eq j k)
  where
    released : j ≡ k → moves.Release k n ≡ moves.Release j i
    released same =
        let held : slice_get s.places k ≡ Some (places.Holds n) = holds_is n (place_of s k) (and_parts (may_let_go s.stage k) (holds n (place_of s k)) allowed).1 in
        let both : Some (places.Holds i) ≡ Some (places.Holds n) = sym here ∙ ap (slice_get s.places) same ∙ held in
        cc
holds_move s (moves.Free k) j i allowed here = inr (stays away s.places j k (places.Holds i) places.Free here refl (was_away s k allowed).away)
holds_move s (moves.Leave k) j i allowed here = inr (stays is_free s.places j k (places.Holds i) places.Between here refl (and_parts _ _ allowed).1)
holds_move s (moves.Sleep k until) j i allowed here = inr (stays away s.places j k (places.Holds i) (places.Asleep until) here refl (arrived s k (and_parts _ _ allowed).0).away)
holds_move s (moves.Done k) j i allowed here = inr (stays away s.places j k (places.Holds i) places.Done here refl (arrived s k allowed).away)
holds_move s (moves.Run k) j i allowed here = inr here
holds_move s moves.Idle j i allowed here = inr here

-- a waiter waits until it takes
waits_move : (s : Standing) (m : LockMove) (j i : ℕ) → move_is_allowed s m ≡ true → place_of s j ≡ Some (places.Waits i) → (m ≡ moves.Take j i) ⊎ (place_of (moved s m) j ≡ Some (places.Waits i))
waits_move s (moves.Join k n) j i allowed here = inr (join_stays s k n j (places.Waits i) allowed refl here)
waits_move s (moves.Take k n) j i allowed here = ⊎_elim
    (λ same. inl (took same))
    (λ other. inr (get_other s.places k j (places.Holds n) other ∙ here))
    (cases_eq j k)
  where
    took : j ≡ k → moves.Take k n ≡ moves.Take j i
    took same =
        let awaited : slice_get s.places k ≡ Some (places.Waits n) = waits_is n (place_of s k) (and_parts (just_ran s.stage k) (waits n (place_of s k)) allowed).1 in
        let both : Some (places.Waits i) ≡ Some (places.Waits n) = sym here ∙ ap (slice_get s.places) same ∙ awaited in
        cc
waits_move s (moves.Release k n) j i allowed here = inr (stays (holds n) s.places j k (places.Waits i) places.Between here refl (and_parts _ _ allowed).1)
waits_move s (moves.Free k) j i allowed here = inr (stays away s.places j k (places.Waits i) places.Free here refl (was_away s k allowed).away)
waits_move s (moves.Leave k) j i allowed here = inr (stays is_free s.places j k (places.Waits i) places.Between here refl (and_parts _ _ allowed).1)
waits_move s (moves.Sleep k until) j i allowed here = inr (stays away s.places j k (places.Waits i) (places.Asleep until) here refl (arrived s k (and_parts _ _ allowed).0).away)
waits_move s (moves.Done k) j i allowed here = inr (stays away s.places j k (places.Waits i) places.Done here refl (arrived s k allowed).away)
waits_move s (moves.Run k) j i allowed here = inr here
waits_move s moves.Idle j i allowed here = inr here

-- the list of waiters

abbrev pub WaitsAt : List StackPlace → Waiter → Type 0
WaitsAt ps w = slice_get ps w.stack ≡ Some (places.Waits w.instance)

abbrev pub AllWait : List StackPlace → List Waiter → Type 0
AllWait ps [] = Unit {0}
AllWait ps (w ∷ ws) = WaitsAt ps w × AllWait ps ws

abbrev pub NoStack : ℕ → List Waiter → Type 0
NoStack k [] = Unit {0}
NoStack k (w ∷ ws) = (w.stack ≡ k → ⊥) × NoStack k ws

abbrev pub Differ : List Waiter → Type 0
Differ [] = Unit {0}
Differ (w ∷ ws) = NoStack w.stack ws × Differ ws

all_wait : (ps qs : List StackPlace) (ws : List Waiter) → ((w : Waiter) → WaitsAt ps w → WaitsAt qs w) → AllWait ps ws → AllWait qs ws
all_wait ps qs [] keep all = tt
all_wait ps qs (w ∷ ws) keep all = (keep w all.0, all_wait ps qs ws keep all.1)

all_push : (ps : List StackPlace) (ws : List Waiter) (x : Waiter) → AllWait ps ws → WaitsAt ps x → AllWait ps (ws ++ x ∷ [])
all_push ps [] x all last = (last, tt)
all_push ps (w ∷ ws) x all last = (all.0, all_push ps ws x all.1 last)

nobody : (ps : List StackPlace) (k : ℕ) (ws : List Waiter) → AllWait ps ws → away (slice_get ps k) ≡ true → NoStack k ws
nobody ps k [] all passes = tt
nobody ps k (w ∷ ws) all passes = (differ away ps w.stack k (places.Waits w.instance) all.0 refl passes, nobody ps k ws all.1 passes)

no_push : (k : ℕ) (ws : List Waiter) (x : Waiter) → NoStack k ws → (x.stack ≡ k → ⊥) → NoStack k (ws ++ x ∷ [])
no_push k [] x none other = (other, tt)
no_push k (w ∷ ws) x none other = (none.0, no_push k ws x none.1 other)

differ_push : (ws : List Waiter) (x : Waiter) → Differ ws → NoStack x.stack ws → Differ (ws ++ x ∷ [])
differ_push [] x apart none = (tt, tt)
differ_push (w ∷ ws) x apart none = (no_push w.stack ws x apart.0 (λ e. none.0 (sym e)), differ_push ws x apart.1 none.1)

no_without : (k n : ℕ) (ws : List Waiter) → NoStack k ws → NoStack k (without_stack n ws)
no_without k n [] none = tt
no_without k n (w ∷ ws) none = cond_both (is_other n w) (w ∷ without_stack n ws) ws (λ (vs : List Waiter). NoStack k vs) (λ t. (none.0, no_without k n ws none.1)) (λ t. none.1)

differ_without : (n : ℕ) (ws : List Waiter) → Differ ws → Differ (without_stack n ws)
differ_without n [] apart = tt
differ_without n (w ∷ ws) apart = cond_both (is_other n w) (w ∷ without_stack n ws) ws (λ (vs : List Waiter). Differ vs) (λ t. (no_without w.stack n ws apart.0, differ_without n ws apart.1)) (λ t. apart.1)

-- those that stay wait on
wait_others : (ps : List StackPlace) (k : ℕ) (q : StackPlace) (ws : List Waiter) → AllWait ps ws → NoStack k ws → AllWait (slice_set ps k q) ws
wait_others ps k q [] all none = tt
wait_others ps k q (w ∷ ws) all none = (get_other ps k w.stack q none.0 ∙ all.0, wait_others ps k q ws all.1 none.1)

wait_without : (ps : List StackPlace) (k : ℕ) (q : StackPlace) (ws : List Waiter) → AllWait ps ws → Differ ws → AllWait (slice_set ps k q) (without_stack k ws)
wait_without ps k q [] all apart = tt
wait_without ps k q (w ∷ ws) all apart = cond_both (is_other k w) (w ∷ without_stack k ws) ws (λ (vs : List Waiter). AllWait (slice_set ps k q) vs)
    (λ t. (get_other ps k w.stack q (eqb-false w.stack k (not-true (w.stack == k) t)) ∙ all.0, wait_without ps k q ws all.1 apart.1))
    (λ t. wait_others ps k q ws all.1 (subst (λ (n : ℕ). NoStack n ws) (eqb-true w.stack k (not-false (w.stack == k) t)) apart.0))

-- the runner was ready, and nothing has moved since
abbrev pub ReadyIfRan : List StackPlace → List Waiter → Stage → Type 0
ReadyIfRan ps ws stages.Start = Unit {0}
ReadyIfRan ps ws stages.Instances = Unit {0}
ReadyIfRan ps ws stages.Begun = Unit {0}
ReadyIfRan ps ws (stages.Woken n) = Unit {0}
ReadyIfRan ps ws (stages.Ran n) = ready_at ps ws n (slice_get ps n) ≡ true
ReadyIfRan ps ws (stages.Acting n) = Unit {0}
ReadyIfRan ps ws (stages.Left n) = Unit {0}
ReadyIfRan ps ws stages.Idle = Unit {0}
ReadyIfRan ps ws stages.Ended = Unit {0}

calm : (ps : List StackPlace) (ws : List Waiter) (stage : Stage) (k : ℕ) → ReadyIfRan ps ws (stage_after stage k)
calm ps ws stages.Start k = tt
calm ps ws stages.Instances k = tt
calm ps ws stages.Begun k = tt
calm ps ws (stages.Woken n) k = tt
calm ps ws (stages.Ran n) k = tt
calm ps ws (stages.Acting n) k = tt
calm ps ws (stages.Left n) k = tt
calm ps ws stages.Idle k = tt
calm ps ws stages.Ended k = tt

-- what holds after each line
pub record Good (s : Standing) : Type 0 where
  pub waiting : AllWait s.places s.waiters
  pub apart : Differ s.waiters
  pub ran : ReadyIfRan s.places s.waiters s.stage

wait_after : (s : Standing) (m : LockMove) → Good s → move_is_allowed s m ≡ true → ((j i : ℕ) → m ≡ moves.Take j i → ⊥) → AllWait (moved s m).places s.waiters
wait_after s m good allowed other = all_wait s.places (moved s m).places s.waiters
    (λ w here. ⊎_elim (λ took. absurd (other w.stack w.instance took)) (λ on. on) (waits_move s m w.stack w.instance allowed here)) good.waiting

good_move : (s : Standing) (m : LockMove) → Good s → move_is_allowed s m ≡ true → Good (moved s m)
good_move s (moves.Join k i) good allowed = record {
  waiting = all_push (moved s (moves.Join k i)).places s.waiters _ (wait_after s (moves.Join k i) good allowed (λ a b e. absurd (cc))) (join_waits s k i allowed);
  apart = differ_push s.waiters _ good.apart (nobody s.places k s.waiters good.waiting (joins_away s k allowed));
  ran = cond_both (k == length s.places) stages.Begun (stage_after s.stage k) (λ (stage : Stage). ReadyIfRan (moved s (moves.Join k i)).places (moved s (moves.Join k i)).waiters stage) (λ t. tt) (λ t. calm _ _ s.stage k);
}
good_move s (moves.Take k i) good allowed = record {
  waiting = wait_without s.places k (places.Holds i) s.waiters good.waiting good.apart;
  apart = differ_without k s.waiters good.apart;
  ran = tt;
}
good_move s (moves.Release k i) good allowed = record { waiting = wait_after s (moves.Release k i) good allowed (λ a b e. absurd (cc)); apart = good.apart; ran = tt }
good_move s (moves.Free k) good allowed = record { waiting = wait_after s (moves.Free k) good allowed (λ a b e. absurd (cc)); apart = good.apart; ran = calm _ _ s.stage k }
good_move s (moves.Leave k) good allowed = record { waiting = wait_after s (moves.Leave k) good allowed (λ a b e. absurd (cc)); apart = good.apart; ran = tt }
good_move s (moves.Sleep k until) good allowed = record { waiting = wait_after s (moves.Sleep k until) good allowed (λ a b e. absurd (cc)); apart = good.apart; ran = calm _ _ s.stage k }
good_move s (moves.Done k) good allowed = record { waiting = wait_after s (moves.Done k) good allowed (λ a b e. absurd (cc)); apart = good.apart; ran = calm _ _ s.stage k }
good_move s (moves.Run k) good allowed = record { waiting = good.waiting; apart = good.apart; ran = (and_parts _ _ allowed).1 }
good_move s moves.Idle good allowed = record { waiting = good.waiting; apart = good.apart; ran = tt }

pub good_after : (s : Standing) (l : JournalLine) → Good s → is_allowed s l ≡ true → Good (after s l)
good_after s Heading good allowed = record { waiting = good.waiting; apart = good.apart; ran = tt }
good_after s (Instance name) good allowed = record { waiting = good.waiting; apart = good.apart; ran = good.ran }
good_after s (Turn turn) good allowed = record { waiting = good.waiting; apart = good.apart; ran = tt }
good_after s (End turns) good allowed = record { waiting = good.waiting; apart = good.apart; ran = tt }
good_after s (Moved m) good allowed = good_move s m good allowed

pub good_start : Good start
good_start = record { waiting = tt; apart = tt; ran = tt }

-- from here the rest follows
record Reached (rest : List JournalLine) (end : Standing) (P : Standing → Type 0) : Type 0 where
  at : Standing
  good : Good at
  leave : Leave at rest end
  holds : P at

-- what each line keeps, but for one line, holds until that line
goes_on : (P : Standing → Type 0) (stop : JournalLine) → ((s : Standing) (l : JournalLine) → Good s → is_allowed s l ≡ true → P s → (l ≡ stop) ⊎ P (after s l))
    → (lines rest : List JournalLine) (s end : Standing) → Good s → P s → Leave s (lines ++ rest) end → Stands stop lines ⊎ Reached rest end P
goes_on P stop step [] rest s end good here leave = inr (record { at = s; good = good; leave = leave; holds = here })
goes_on P stop step (l ∷ lines) rest s end good here leave = ⊎_elim
    (λ is. inl (inl is))
    (λ next. ⊎_elim (λ (there : Stands stop lines). inl (inr there)) (λ r. inr r) (goes_on P stop step lines rest (after s l) end (good_after s l good leave.2) next leave.3))
    (step s l good leave.2 here)

abbrev Anything : Standing → Type 0
Anything s = Unit {0}

-- a line that stands somewhere
reach : (lines rest : List JournalLine) (s end : Standing) → Good s → Leave s (lines ++ rest) end → Reached rest end Anything
reach [] rest s end good leave = record { at = s; good = good; leave = leave; holds = tt }
reach (l ∷ lines) rest s end good leave = reach lines rest (after s l) end (good_after s l good leave.2) leave.3

holds_step : (j i : ℕ) (s : Standing) (l : JournalLine) → Good s → is_allowed s l ≡ true → place_of s j ≡ Some (places.Holds i) → (l ≡ Moved (moves.Release j i)) ⊎ (place_of (after s l) j ≡ Some (places.Holds i))
holds_step j i s Heading good allowed here = inr here
holds_step j i s (Instance name) good allowed here = inr here
holds_step j i s (Turn turn) good allowed here = inr here
holds_step j i s (End turns) good allowed here = inr here
holds_step j i s (Moved m) good allowed here = ⊎_elim (λ e. inl (ap (λ (n : LockMove). Moved n) e)) (λ on. inr on) (holds_move s m j i allowed here)

-- what a take needs
pub record Takes (s : Standing) (k i : ℕ) : Type 0 where
  pub waited : place_of s k ≡ Some (places.Waits i)
  pub free : nobody_holds i s.places ≡ true
  pub first : is_first i k s.waiters ≡ true

ran_ready : (ps : List StackPlace) (ws : List Waiter) (stage : Stage) (k : ℕ) → ReadyIfRan ps ws stage → just_ran stage k ≡ true → ready_at ps ws k (slice_get ps k) ≡ true
ran_ready ps ws stages.Start k ready e = absurd (false≢true e)
ran_ready ps ws stages.Instances k ready e = absurd (false≢true e)
ran_ready ps ws stages.Begun k ready e = absurd (false≢true e)
ran_ready ps ws (stages.Woken n) k ready e = absurd (false≢true e)
ran_ready ps ws (stages.Ran n) k ready e = subst (λ (m : ℕ). ready_at ps ws m (slice_get ps m) ≡ true) (eqb-true n k e) ready
ran_ready ps ws (stages.Acting n) k ready e = absurd (false≢true e)
ran_ready ps ws (stages.Left n) k ready e = absurd (false≢true e)
ran_ready ps ws stages.Idle k ready e = absurd (false≢true e)
ran_ready ps ws stages.Ended k ready e = absurd (false≢true e)

pub takes : (s : Standing) (k i : ℕ) → Good s → is_allowed s (Moved (moves.Take k i)) ≡ true → Takes s k i
takes s k i good allowed =
    let parts = and_parts _ _ allowed in
    let waited = waits_is i (place_of s k) parts.1 in
    let ready : (nobody_holds i s.places && is_first i k s.waiters) ≡ true = sym (ap (ready_at s.places s.waiters k) waited) ∙ ran_ready s.places s.waiters s.stage k good.ran parts.0 in
    let both = and_parts _ _ ready in
    record { waited = waited; free = both.0; first = both.1 }

holder_shows : (i : ℕ) (ps : List StackPlace) (j : ℕ) → slice_get ps j ≡ Some (places.Holds i) → nobody_holds i ps ≡ true → ⊥
holder_shows i [] j here nobody = absurd (cc)
holder_shows i (p ∷ ps) zero here nobody =
    let is : p ≡ places.Holds i = cc in
    let unheld : not (i == i) ≡ true = ap (λ (q : StackPlace). not (holds i (Some q))) (sym is) ∙ (and_parts _ _ nobody).0 in
    false≢true (sym (not-true (i == i) unheld) ∙ eq-eqb i i refl)
holder_shows i (p ∷ ps) (suc j) here nobody = holder_shows i ps j here (and_parts _ _ nobody).1

taken : (s : Standing) (k i : ℕ) → Takes s k i → place_of (after s (Moved (moves.Take k i))) k ≡ Some (places.Holds i)
taken s k i t = get_same s.places k (places.Holds i) (slice_get_within s.places k (places.Waits i) t.waited)

pub one_holder : (lines : List JournalLine) → AreLegal lines → OneHolder lines
one_holder lines legal before between behind j k i is =
    let taker = Moved (moves.Take j i) in
    let next = Moved (moves.Take k i) in
    let r = reach before (taker ∷ (between ++ next ∷ behind)) start legal.end good_start (subst (λ (ls : List JournalLine). Leave start ls legal.end) is legal.leave) in
    let held = taken r.at j i (takes r.at j i r.good r.leave.2) in
    ⊎_elim (λ there. there)
    (λ (u : Reached (next ∷ behind) legal.end (λ s. place_of s j ≡ Some (places.Holds i))).
    absurd (holder_shows i u.at.places j u.holds (takes u.at k i u.good u.leave.2).free))
    (goes_on (λ s. place_of s j ≡ Some (places.Holds i)) (Moved (moves.Release j i)) (holds_step j i) between (next ∷ behind) (after r.at taker) legal.end (good_after r.at taker r.good r.leave.2) held r.leave.3)

pub lets_go : (lines : List JournalLine) → AreLegal lines → LetsGo lines
lets_go lines legal before between behind k i j is =
    let taker = Moved (moves.Take k i) in
    let next = Moved (moves.Join k j) in
    let r = reach before (taker ∷ (between ++ next ∷ behind)) start legal.end good_start (subst (λ (ls : List JournalLine). Leave start ls legal.end) is legal.leave) in
    let held = taken r.at k i (takes r.at k i r.good r.leave.2) in
    ⊎_elim (λ there. there)
    (λ (u : Reached (next ∷ behind) legal.end (λ s. place_of s k ≡ Some (places.Holds i))).
    absurd (differ away u.at.places k k (places.Holds i) u.holds refl (joins_away u.at k u.leave.2) refl))
    (goes_on (λ s. place_of s k ≡ Some (places.Holds i)) (Moved (moves.Release k i)) (holds_step k i) between (next ∷ behind) (after r.at taker) legal.end (good_after r.at taker r.good r.leave.2) held r.leave.3)

-- order of joining

abbrev pub IsEntry : ℕ → ℕ → Waiter → Type 0
IsEntry i j w = (w.instance ≡ i) × (w.stack ≡ j)

abbrev pub Among : ℕ → ℕ → List Waiter → Type 0
Among i j [] = ⊥
Among i j (w ∷ ws) = IsEntry i j w ⊎ Among i j ws

-- an entry stands before any of another stack
abbrev Ahead : ℕ → ℕ → ℕ → List Waiter → Type 0
Ahead i j k [] = ⊥
Ahead i j k (w ∷ ws) = (w.stack ≡ k → ⊥) × (IsEntry i j w ⊎ Ahead i j k ws)

among_last : (i j : ℕ) (ws : List Waiter) (x : Waiter) → IsEntry i j x → Among i j (ws ++ x ∷ [])
among_last i j [] x is = inl is
among_last i j (w ∷ ws) x is = inr (among_last i j ws x is)

among_push : (i j : ℕ) (ws vs : List Waiter) → Among i j ws → Among i j (ws ++ vs)
among_push i j [] vs among = absurd among
among_push i j (w ∷ ws) vs among = ⊎_elim (λ (is : IsEntry i j w). inl is) (λ (rest : Among i j ws). inr (among_push i j ws vs rest)) among

among_without : (i j n : ℕ) (ws : List Waiter) → (j ≡ n → ⊥) → Among i j ws → Among i j (without_stack n ws)
among_without i j n [] other among = absurd among
among_without i j n (w ∷ ws) other among = cond_both (is_other n w) (w ∷ without_stack n ws) ws (λ (vs : List Waiter). Among i j vs)
    (λ t. ⊎_elim (λ (is : IsEntry i j w). inl is) (λ (rest : Among i j ws). inr (among_without i j n ws other rest)) among)
    (λ t. ⊎_elim (λ (is : IsEntry i j w). absurd (other (sym is.1 ∙ eqb-true w.stack n (not-false (w.stack == n) t)))) (λ (rest : Among i j ws). rest) among)

among_waits : (ps : List StackPlace) (i j : ℕ) (ws : List Waiter) → AllWait ps ws → Among i j ws → slice_get ps j ≡ Some (places.Waits i)
among_waits ps i j [] all among = absurd among
among_waits ps i j (w ∷ ws) all among = ⊎_elim
    (λ (is : IsEntry i j w). ap (slice_get ps) (sym is.1) ∙ all.0 ∙ ap (λ (n : ℕ). Some (places.Waits n)) is.0)
    (λ (rest : Among i j ws). among_waits ps i j ws all.1 rest) among

ahead_last : (i j k : ℕ) (ws : List Waiter) (x : Waiter) → NoStack k ws → Among i j ws → Ahead i j k (ws ++ x ∷ [])
ahead_last i j k [] x none among = absurd among
ahead_last i j k (w ∷ ws) x none among = (none.0, ⊎_elim (λ (is : IsEntry i j w). inl is) (λ (rest : Among i j ws). inr (ahead_last i j k ws x none.1 rest)) among)

ahead_push : (i j k : ℕ) (ws vs : List Waiter) → Ahead i j k ws → Ahead i j k (ws ++ vs)
ahead_push i j k [] vs ahead = absurd ahead
ahead_push i j k (w ∷ ws) vs ahead = (ahead.0, ⊎_elim (λ (is : IsEntry i j w). inl is) (λ (rest : Ahead i j k ws). inr (ahead_push i j k ws vs rest)) ahead.1)

ahead_without : (i j k n : ℕ) (ws : List Waiter) → (j ≡ n → ⊥) → Ahead i j k ws → Ahead i j k (without_stack n ws)
ahead_without i j k n [] other ahead = absurd ahead
ahead_without i j k n (w ∷ ws) other ahead = cond_both (is_other n w) (w ∷ without_stack n ws) ws (λ (vs : List Waiter). Ahead i j k vs)
    (λ t. (ahead.0, ⊎_elim (λ (is : IsEntry i j w). inl is) (λ (rest : Ahead i j k ws). inr (ahead_without i j k n ws other rest)) ahead.1))
    (λ t. ⊎_elim (λ (is : IsEntry i j w). absurd (other (sym is.1 ∙ eqb-true w.stack n (not-false (w.stack == n) t)))) (λ (rest : Ahead i j k ws). rest) ahead.1)

ahead_among : (i j k : ℕ) (ws : List Waiter) → Ahead i j k ws → Among i j ws
ahead_among i j k [] ahead = absurd ahead
ahead_among i j k (w ∷ ws) ahead = ⊎_elim (λ (is : IsEntry i j w). inl is) (λ (rest : Ahead i j k ws). inr (ahead_among i j k ws rest)) ahead.1

not_first : (i j k : ℕ) (ws : List Waiter) → Ahead i j k ws → is_first i k ws ≡ true → ⊥
not_first i j k [] ahead first = ahead
not_first i j k (w ∷ ws) ahead first =
    cond_both (w.instance == i) (w.stack == k) (is_first i k ws) (λ (b : Bool). b ≡ true → ⊥)
    (λ t. λ here. ahead.0 (eqb-true w.stack k here))
    (λ t. λ there. ⊎_elim (λ (is : IsEntry i j w). eqb-false w.instance i t is.0) (λ (rest : Ahead i j k ws). not_first i j k ws rest there) ahead.1)
    first

took : (s : Standing) (k n i j : ℕ) → Good s → move_is_allowed s (moves.Take k n) ≡ true → Among i j s.waiters → j ≡ k → moves.Take k n ≡ moves.Take j i
took s k n i j good allowed among same =
    let awaited : slice_get s.places k ≡ Some (places.Waits n) = waits_is n (place_of s k) (and_parts (just_ran s.stage k) (waits n (place_of s k)) allowed).1 in
    let both : Some (places.Waits i) ≡ Some (places.Waits n) = sym (among_waits s.places i j s.waiters good.waiting among) ∙ ap (slice_get s.places) same ∙ awaited in
    cc

among_move : (i j : ℕ) (s : Standing) (m : LockMove) → Good s → move_is_allowed s m ≡ true → Among i j s.waiters → (m ≡ moves.Take j i) ⊎ Among i j (moved s m).waiters
among_move i j s (moves.Join k n) good allowed among = inr (among_push i j s.waiters _ among)
among_move i j s (moves.Take k n) good allowed among = ⊎_elim (λ same. inl (took s k n i j good allowed among same)) (λ other. inr (among_without i j k s.waiters other among)) (cases_eq j k)
among_move i j s (moves.Release k n) good allowed among = inr among
among_move i j s (moves.Free k) good allowed among = inr among
among_move i j s (moves.Leave k) good allowed among = inr among
among_move i j s (moves.Sleep k until) good allowed among = inr among
among_move i j s (moves.Done k) good allowed among = inr among
among_move i j s (moves.Run k) good allowed among = inr among
among_move i j s moves.Idle good allowed among = inr among

ahead_move : (i j k : ℕ) (s : Standing) (m : LockMove) → Good s → move_is_allowed s m ≡ true → Ahead i j k s.waiters → (m ≡ moves.Take j i) ⊎ Ahead i j k (moved s m).waiters
ahead_move i j k s (moves.Join h n) good allowed ahead = inr (ahead_push i j k s.waiters _ ahead)
ahead_move i j k s (moves.Take h n) good allowed ahead = ⊎_elim (λ same. inl (took s h n i j good allowed (ahead_among i j k s.waiters ahead) same)) (λ other. inr (ahead_without i j k h s.waiters other ahead)) (cases_eq j h)
ahead_move i j k s (moves.Release h n) good allowed ahead = inr ahead
ahead_move i j k s (moves.Free h) good allowed ahead = inr ahead
ahead_move i j k s (moves.Leave h) good allowed ahead = inr ahead
ahead_move i j k s (moves.Sleep h until) good allowed ahead = inr ahead
ahead_move i j k s (moves.Done h) good allowed ahead = inr ahead
ahead_move i j k s (moves.Run h) good allowed ahead = inr ahead
ahead_move i j k s moves.Idle good allowed ahead = inr ahead

among_step : (i j : ℕ) (s : Standing) (l : JournalLine) → Good s → is_allowed s l ≡ true → Among i j s.waiters → (l ≡ Moved (moves.Take j i)) ⊎ Among i j (after s l).waiters
among_step i j s Heading good allowed among = inr among
among_step i j s (Instance name) good allowed among = inr among
among_step i j s (Turn turn) good allowed among = inr among
among_step i j s (End turns) good allowed among = inr among
among_step i j s (Moved m) good allowed among = ⊎_elim (λ e. inl (ap (λ (n : LockMove). Moved n) e)) (λ on. inr on) (among_move i j s m good allowed among)

ahead_step : (i j k : ℕ) (s : Standing) (l : JournalLine) → Good s → is_allowed s l ≡ true → Ahead i j k s.waiters → (l ≡ Moved (moves.Take j i)) ⊎ Ahead i j k (after s l).waiters
ahead_step i j k s Heading good allowed ahead = inr ahead
ahead_step i j k s (Instance name) good allowed ahead = inr ahead
ahead_step i j k s (Turn turn) good allowed ahead = inr ahead
ahead_step i j k s (End turns) good allowed ahead = inr ahead
ahead_step i j k s (Moved m) good allowed ahead = ⊎_elim (λ e. inl (ap (λ (n : LockMove). Moved n) e)) (λ on. inr on) (ahead_move i j k s m good allowed ahead)

pub in_order : (lines : List JournalLine) → AreLegal lines → InOrder lines
in_order lines legal before between until behind j k i is =
    let first = Moved (moves.Join j i) in
    let second = Moved (moves.Join k i) in
    let stop = Moved (moves.Take j i) in
    let take = Moved (moves.Take k i) in
    let rest = until ++ take ∷ behind in
    let r = reach before (first ∷ (between ++ second ∷ rest)) start legal.end good_start (subst (λ (ls : List JournalLine). Leave start ls legal.end) is legal.leave) in
    let entered : Among i j (after r.at first).waiters = among_last i j r.at.waiters _ (refl, refl) in
    ⊎_elim (λ (there : Stands stop between). inl there)
    (λ (u : Reached (second ∷ rest) legal.end (λ s. Among i j s.waiters)).
    let none = nobody u.at.places k u.at.waiters u.good.waiting (joins_away u.at k u.leave.2) in
    let ahead : Ahead i j k (after u.at second).waiters = ahead_last i j k u.at.waiters _ none u.holds in
    ⊎_elim (λ (there : Stands stop until). inr there)
    (λ (v : Reached (take ∷ behind) legal.end (λ s. Ahead i j k s.waiters)). absurd (not_first i j k v.at.waiters v.holds (takes v.at k i v.good v.leave.2).first))
    (goes_on (λ s. Ahead i j k s.waiters) stop (ahead_step i j k) until (take ∷ behind) (after u.at second) legal.end (good_after u.at second u.good u.leave.2) ahead u.leave.3))
    (goes_on (λ s. Among i j s.waiters) stop (among_step i j) between (second ∷ rest) (after r.at first) legal.end (good_after r.at first r.good r.leave.2) entered r.leave.3)
