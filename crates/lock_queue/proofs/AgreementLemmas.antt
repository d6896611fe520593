-- The parts of the locks still agree after each call.
use Rattle.std.proofs.Common.{◌≡◌, ◌≢◌, ℕ, ◌<◌, List, [], ◌∷◌, ◌++◌, length, filter, Option, Some, None, is_none, Bool, true, false, cond, eqb, sym, refl, ap, subst, ◌∙◌, inl, inr, ⊎_elim}
use Rattle.std.proofs.Math.ListN.{set}
use Rattle.std.proofs.lemmas.List.{get_or-set_other}
use Rattle.std.proofs.lemmas.Grind.{get_or-set_at}
use Rattle.std.proofs.lemmas.Bool.{eq-eqb, ne_eqb, eqb-true}
use Rattle.std.proofs.lemmas.Bool.Decides.{eqb_tells}
use Rattle.lock_queue.specs.declared.seat.Seat.{Seat}
use Rattle.lock_queue.specs.declared.seat.Seat.TheVariants.{Resting, Free, Waits, Holds}
use Rattle.lock_queue.specs.Links.{Lacks, Has, AllDiffer, without, first_of}
use Rattle.lock_queue.specs.LockTable.{seat_at, is_first, is_some_of, IsIdle, held_by, waits_for}
use Rattle.lock_queue.specs.Agreement.{waits, awaited_in, waiters_of}
use Rattle.lock_queue.proofs.LinkLemmas.{apart}
use Rattle.lock_queue.proofs.QueueLemmas.{lacks_from, has_without}

-- ---- seats
pub seat_same : (seats : List Seat) (k j : ℕ) (s : Seat) → k < length seats → j ≡ k → seat_at (set seats k s) j ≡ s
seat_same seats k j s within same = get_or-set_at seats k j s Resting same within

pub seat_other : (seats : List Seat) (k j : ℕ) (s : Seat) → j ≢ k → seat_at (set seats k s) j ≡ seat_at seats j
seat_other seats k j s other = get_or-set_other seats k j s Resting other

-- a seat that isn't the new one is an old one of another stack
pub seat_from : (seats : List Seat) (k j : ℕ) (s t : Seat) → k < length seats → (s ≡ t → ⊥) → seat_at (set seats k s) j ≡ t → (j ≢ k) × (seat_at seats j ≡ t)
seat_from seats k j s t within differs seat =
    ⊎_elim
    (λ (same : (eqb j k ≡ true) × (j ≡ k)). absurd (differs (sym (seat_same seats k j s within same.1) ∙ seat)))
    (λ (other : (eqb j k ≡ false) × (j ≢ k)). (other.1, sym (seat_other seats k j s other.1) ∙ seat))
    (eqb_tells j k)

pub waits_holds : (a b : ℕ) → Waits a ≡ Holds b → ⊥
waits_holds a b e = cc

pub holds_waits : (a b : ℕ) → Holds a ≡ Waits b → ⊥
holds_waits a b e = cc

pub resting_waits : (a : ℕ) → Resting ≡ Waits a → ⊥
resting_waits a e = cc

pub resting_holds : (a : ℕ) → Resting ≡ Holds a → ⊥
resting_holds a e = cc

pub free_waits : (a : ℕ) → Free ≡ Waits a → ⊥
free_waits a e = cc

pub same_waits : (a b : ℕ) → Waits a ≡ Waits b → a ≡ b
same_waits a b e = cc

pub same_holds : (a b : ℕ) → Holds a ≡ Holds b → a ≡ b
same_holds a b e = cc

pub same_some : (a b : ℕ) → ◌≡◌ {A = Option ℕ} (Some a) (Some b) → a ≡ b
same_some a b e = cc

pub none_some : (a : ℕ) → ◌≡◌ {A = Option ℕ} None (Some a) → ⊥
none_some a e = cc

pub idle_waits : (s : Seat) (i : ℕ) → IsIdle s → s ≡ Waits i → ⊥
idle_waits s i idle e = none_some i (sym idle.1 ∙ ap waits_for e)

pub idle_holds : (s : Seat) (i : ℕ) → IsIdle s → s ≡ Holds i → ⊥
idle_holds s i idle e = none_some i (sym idle.0 ∙ ap held_by e)

pub waits_true : (i : ℕ) (s : Seat) → waits i s ≡ true → s ≡ Waits i
waits_true i Resting e = cc
waits_true i Free e = cc
waits_true i (Waits a) e = ap Waits (eqb-true a i e)
waits_true i (Holds a) e = cc

pub waits_is : (i : ℕ) (s : Seat) → s ≡ Waits i → waits i s ≡ true
waits_is i s e = ap (waits i) e ∙ eq-eqb i i refl

pub waits_other : (i j : ℕ) (s : Seat) → s ≡ Waits i → j ≢ i → waits j s ≡ false
waits_other i j s e other = ap (waits j) e ∙ ne_eqb i j (λ f. other (sym f))

-- ---- lists of stacks
pub filter-seat : (seats : List Seat) (k : ℕ) (s : Seat) (i : ℕ) (xs : List ℕ) → Lacks xs k → filter (λ j. waits i (seat_at (set seats k s) j)) xs ≡ filter (λ j. waits i (seat_at seats j)) xs
filter-seat seats k s i [] lacks = refl
filter-seat seats k s i (x ∷ xs) lacks =
    ap (λ t. cond (waits i t) (x ∷ filter (λ j. waits i (seat_at (set seats k s) j)) xs) (filter (λ j. waits i (seat_at (set seats k s) j)) xs)) (seat_other seats k x s lacks.0)
    ∙ ap (λ ys. cond (waits i (seat_at seats x)) (x ∷ ys) ys) (filter-seat seats k s i xs lacks.1)

pub waiters-seat : (seats : List Seat) (k : ℕ) (s : Seat) (xs : List ℕ) → Lacks xs k → waiters_of (set seats k s) xs ≡ waiters_of seats xs
waiters-seat seats k s [] lacks = refl
waiters-seat seats k s (x ∷ xs) lacks =
    ap (λ t. (awaited_in t, x) ∷ waiters_of (set seats k s) xs) (seat_other seats k x s lacks.0)
    ∙ ap (λ ws. (awaited_in (seat_at seats x), x) ∷ ws) (waiters-seat seats k s xs lacks.1)

pub filter-without_other : (p : ℕ → Bool) (xs : List ℕ) (k : ℕ) → p k ≡ false → filter p (without xs k) ≡ filter p xs
filter-without_other p [] k fails = refl
filter-without_other p (x ∷ xs) k fails =
    ⊎_elim
    (λ (same : (eqb x k ≡ true) × (x ≡ k)).
    ap (λ b. filter p (cond b xs (x ∷ without xs k))) same.0
    ∙ sym (ap (λ b. cond b (x ∷ filter p xs) (filter p xs)) (ap p same.1 ∙ fails)))
    (λ (other : (eqb x k ≡ false) × (x ≢ k)).
    ap (λ b. filter p (cond b xs (x ∷ without xs k))) other.0
    ∙ ap (λ ys. cond (p x) (x ∷ ys) ys) (filter-without_other p xs k fails))
    (eqb_tells x k)

pub without-filter : (p : ℕ → Bool) (xs : List ℕ) (k : ℕ) → p k ≡ true → filter p (without xs k) ≡ without (filter p xs) k
without-filter p [] k passes = refl
without-filter p (x ∷ xs) k passes =
    ⊎_elim
    (λ (same : (eqb x k ≡ true) × (x ≡ k)).
    ap (λ b. filter p (cond b xs (x ∷ without xs k))) same.0
    ∙ sym (ap (λ b. without (cond b (x ∷ filter p xs) (filter p xs)) k) (ap p same.1 ∙ passes)
    ∙ ap (λ b. cond b (filter p xs) (x ∷ without (filter p xs) k)) same.0))
    (λ (other : (eqb x k ≡ false) × (x ≢ k)).
    ap (λ b. filter p (cond b xs (x ∷ without xs k))) other.0
    ∙ ap (λ ys. cond (p x) (x ∷ ys) ys) (without-filter p xs k passes)
    ∙ kept (p x) other.0)
    (eqb_tells x k)
  where
    kept : (b : Bool) → eqb x k ≡ false → cond b (x ∷ without (filter p xs) k) (without (filter p xs) k) ≡ without (cond b (x ∷ filter p xs) (filter p xs)) k
    kept true e = sym (ap (λ c. cond c (filter p xs) (x ∷ without (filter p xs) k)) e)
    kept false e = refl

pub lacks_without_more : (xs : List ℕ) (k j : ℕ) → Lacks xs j → Lacks (without xs k) j
lacks_without_more xs k j lacks = lacks_from (without xs k) j (λ h. apart xs j j lacks (has_without xs k j h) refl)

pub differ_one : (x : ℕ) (xs : List ℕ) (k : ℕ) (b : Bool) → AllDiffer (x ∷ xs) → AllDiffer (without xs k) → AllDiffer (cond b xs (x ∷ without xs k))
differ_one x xs k true differ rest = differ.1
differ_one x xs k false differ rest = (lacks_without_more xs k x differ.0, rest)

pub differ-without : (xs : List ℕ) (k : ℕ) → AllDiffer xs → AllDiffer (without xs k)
differ-without [] k differ = tt
differ-without (x ∷ xs) k differ = differ_one x xs k (eqb x k) differ (differ-without xs k differ.1)

pub lacks-without : (xs : List ℕ) (k : ℕ) → AllDiffer xs → Lacks (without xs k) k
lacks-without [] k differ = tt
lacks-without (x ∷ xs) k differ =
    ⊎_elim
    (λ (same : (eqb x k ≡ true) × (x ≡ k)).
    let P : List ℕ → Type 0 = λ ys. Lacks ys k in
    let Q : ℕ → Type 0 = λ n. Lacks xs n in
    subst P (sym (ap (λ b. cond b xs (x ∷ without xs k)) same.0)) (subst Q same.1 differ.0))
    (λ (other : (eqb x k ≡ false) × (x ≢ k)).
    let P : List ℕ → Type 0 = λ ys. Lacks ys k in
    subst P (sym (ap (λ b. cond b xs (x ∷ without xs k)) other.0)) (other.1, lacks-without xs k differ.1))
    (eqb_tells x k)

pub has_kept : (xs : List ℕ) (k j : ℕ) → Has xs j → j ≢ k → Has (without xs k) j
has_kept [] k j has other = has
has_kept (x ∷ xs) k j has other =
    let P : List ℕ → Type 0 = λ ys. Has ys j in
    ⊎_elim
    (λ (same : (eqb x k ≡ true) × (x ≡ k)).
    subst P (sym (ap (λ b. cond b xs (x ∷ without xs k)) same.0))
    (⊎_elim (λ (e : x ≡ j). absurd (other (sym e ∙ same.1))) (λ h. h) has))
    (λ (differs : (eqb x k ≡ false) × (x ≢ k)).
    subst P (sym (ap (λ b. cond b xs (x ∷ without xs k)) differs.0))
    (⊎_elim (λ e. inl e) (λ h. inr (has_kept xs k j h other)) has))
    (eqb_tells x k)

-- ---- the first of a queue
pub is_first-push : (queue : List ℕ) (k j : ℕ) → j ≢ k → is_first j (queue ++ k ∷ []) ≡ is_first j queue
is_first-push [] k j other = ne_eqb k j (λ e. other (sym e))
is_first-push (x ∷ xs) k j other = refl

pub is_first-new : (queue : List ℕ) (k : ℕ) → Lacks queue k → is_first k (queue ++ k ∷ []) ≡ is_none (first_of queue)
is_first-new [] k lacks = eq-eqb k k refl
is_first-new (x ∷ xs) k lacks = ne_eqb x k lacks.0

pub is_first_some : (queue : List ℕ) (k : ℕ) → is_first k queue ≡ true → first_of queue ≡ Some k
is_first_some [] k e = cc
is_first_some (x ∷ xs) k e = ap Some (eqb-true x k e)

pub is_first_other : (queue : List ℕ) (k j : ℕ) → is_first k queue ≡ true → j ≢ k → is_first j queue ≡ false
is_first_other [] k j first other = refl
is_first_other (x ∷ xs) k j first other = ne_eqb x j (λ (e : x ≡ j). other (sym e ∙ eqb-true x k first))

pub first_one : (p : ℕ → Bool) (x : ℕ) (rest : List ℕ) (j : ℕ) (b : Bool) → p x ≡ b → (is_first j rest ≡ true → p j ≡ true) → is_first j (cond b (x ∷ rest) rest) ≡ true → p j ≡ true
first_one p x rest j true passes later e = ap p (sym (eqb-true x j e)) ∙ passes
first_one p x rest j false fails later e = later e

pub first_passes : (p : ℕ → Bool) (xs : List ℕ) (j : ℕ) → is_first j (filter p xs) ≡ true → p j ≡ true
first_passes p [] j first = cc
first_passes p (x ∷ xs) j first = first_one p x (filter p xs) j (p x) refl (first_passes p xs j) first

pub is_some-first : (queue : List ℕ) (j : ℕ) → is_some_of j (first_of queue) ≡ is_first j queue
is_some-first [] j = refl
is_some-first (x ∷ xs) j = refl
