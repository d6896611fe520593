-- What a caller sees of the locks, and what each call changes of it.
use Rattle.std.proofs.Common.{◌≡◌, ℕ, ◌<◌, ◌≤◌, List, [], ◌∷◌, ◌++◌, length, map, filter, Option, Some, None, IsSome, is_none, is_some, ◌&&◌, Bool, true, false, cond, eqb, ltb, nat_eq, get_or, sym, refl, ap, subst, ◌∙◌, inl, inr, ⊎_elim, arith}
use Rattle.std.proofs.Math.ListN.{set}
use Rattle.std.proofs.lemmas.List.{get_or_past, get_or_read, map-append}
use Rattle.std.proofs.lemmas.List.Sums.{position_or_len_is}
use Rattle.std.proofs.lemmas.Bool.{eq-eqb, eqb-true, false≢true, cases_lt, lt-ltb, le-ltb, ne_eqb}
use Rattle.std.specs.List.{find, position, position_or_len}
use Rattle.std.specs.Option.{ForSome, option_eq}
use Rattle.lock_queue.specs.declared.seat.Seat.{Seat}
use Rattle.lock_queue.specs.declared.seat.Seat.TheVariants.{Resting, Free, Waits, Holds}
use Rattle.lock_queue.specs.Links.{link_at, Lacks, Has, AllDiffer, without, first_of, stack_after}
use Rattle.lock_queue.specs.Order.{Sequence}
use Rattle.lock_queue.specs.Queues.{Lines, queue_at}
use Rattle.lock_queue.specs.Ready.{is_member}
use Rattle.lock_queue.specs.LockTable.{LockTable, seat_at, holds, queue_of, is_first, may_take, is_ready_in, is_ready, without_stack, first_waiter, waiter_after, waits_for, pairs_if, numbers_from, start_after, ready_after}
use Rattle.lock_queue.specs.Agreement.{waits, awaited_in, waiters_of, ready_in, Agree}
use Rattle.lock_queue.proofs.LinkLemmas.{apart}
use Rattle.lock_queue.proofs.QueueLemmas.{lacks_from}
use Rattle.lock_queue.proofs.AgreementLemmas.{seat_same, waiters-seat, lacks-without, none_some, same_some, resting_holds}
use Rattle.lock_queue.proofs.ReadyLemmas.{find_agree}

abbrev pub table : List Seat → ℕ → List ℕ → LockTable
table seats instances stacks = record { seats = seats; waiters = waiters_of seats stacks; instances = instances }

pub read_seat : (seats : List Seat) (place k : ℕ) (s : Seat) → place ≡ k → place < length seats → s ≡ get_or seats place s → s ≡ seat_at seats k
read_seat seats place k s place_is within read = get_or_read seats place s within read Resting ∙ ap (seat_at seats) place_is

-- ---- the owner
holds_true : (i : ℕ) (s : Seat) → holds i s ≡ true → s ≡ Holds i
holds_true i Resting e = cc
holds_true i Free e = cc
holds_true i (Waits a) e = cc
holds_true i (Holds a) e = ap Holds (eqb-true a i e)

not_held : (i : ℕ) (s : Seat) → (s ≡ Holds i → ⊥) → holds i s ≡ false
not_held i s differs = decide (holds i s) refl where
  decide : (b : Bool) → holds i s ≡ b → holds i s ≡ false
  decide true e = absurd (differs (holds_true i s e))
  decide false e = e

holder_in : (seats : List Seat) (k i : ℕ) → seat_at seats k ≡ Holds i → k < length seats
holder_in seats k i seat =
    ⊎_elim (λ (h : k < length seats). h)
    (λ (h : length seats ≤ k). absurd (resting_holds i (sym (get_or_past seats k Resting h) ∙ seat)))
    (cases_lt k (length seats))

position_at : (p : Seat → Bool) (seats : List Seat) (k : ℕ) → k < length seats → ((j : ℕ) → j < k → p (seat_at seats j) ≡ false) → p (seat_at seats k) ≡ true → position p seats ≡ Some k
position_at p seats k within before here =
    let place : position_or_len p seats ≡ k = position_or_len_is p seats k Resting (omega arith) before (λ h. here) in
    ap (λ n. cond (ltb n (length seats)) (Some n) None) place ∙ ap (λ b. cond b (Some k) None) (lt-ltb k (length seats) within)

position_nowhere : (p : Seat → Bool) (seats : List Seat) → ((j : ℕ) → p (seat_at seats j) ≡ false) → position p seats ≡ None
position_nowhere p seats none =
    let place : position_or_len p seats ≡ length seats = position_or_len_is p seats (length seats) Resting (omega arith) (λ j h. none j) (λ h. absurd (omega arith)) in
    ap (λ n. cond (ltb n (length seats)) (Some n) None) place ∙ ap (λ b. cond b (Some (length seats)) None) (le-ltb (length seats) (length seats) (omega arith))

pub owner_is : (seats : List Seat) (owners : List (Option ℕ)) (order : Sequence) (queues : Lines) (words : List ℕ) (i : ℕ) → Agree seats owners order queues words → position (holds i) seats ≡ link_at owners i
owner_is seats owners order queues words i agree = decide (link_at owners i) refl where
  decide : (o : Option ℕ) → link_at owners i ≡ o → position (holds i) seats ≡ link_at owners i
  decide (Some k) e =
      position_at (holds i) seats k (holder_in seats k i (agree.owner k i e))
      (λ j below. not_held i (seat_at seats j) (λ held. let same = same_some j k (sym (agree.owned j i held) ∙ e) in absurd (omega arith)))
      (ap (holds i) (agree.owner k i e) ∙ eq-eqb i i refl)
      ∙ sym e
  decide None e =
      position_nowhere (holds i) seats (λ j. not_held i (seat_at seats j) (λ held. none_some j (sym e ∙ agree.owned j i held))) ∙ sym e

-- ---- the pairs of a stack
pairs-lacking : (seats : List Seat) (k : ℕ) (xs : List ℕ) → Lacks xs k → filter (λ (w : ℕ × ℕ). eqb w.1 k) (waiters_of seats xs) ≡ []
pairs-lacking seats k [] lacks = refl
pairs-lacking seats k (x ∷ xs) lacks =
    let rest : List (ℕ × ℕ) = filter (λ (w : ℕ × ℕ). eqb w.1 k) (waiters_of seats xs) in
    ap (λ b. cond b ((awaited_in (seat_at seats x), x) ∷ rest) rest) (ne_eqb x k lacks.0) ∙ pairs-lacking seats k xs lacks.1

pairs-having : (seats : List Seat) (k : ℕ) (xs : List ℕ) → AllDiffer xs → Has xs k → filter (λ (w : ℕ × ℕ). eqb w.1 k) (waiters_of seats xs) ≡ (awaited_in (seat_at seats k), k) ∷ []
pairs-having seats k [] differ has = elim has [ ]
pairs-having seats k (x ∷ xs) differ has =
    let rest : List (ℕ × ℕ) = filter (λ (w : ℕ × ℕ). eqb w.1 k) (waiters_of seats xs) in
    ⊎_elim
    (λ (e : x ≡ k).
    ap (λ b. cond b ((awaited_in (seat_at seats x), x) ∷ rest) rest) (eq-eqb x k e)
    ∙ ap (λ ws. (awaited_in (seat_at seats x), x) ∷ ws) (pairs-lacking seats k xs (subst (λ j. Lacks xs j) e differ.0))
    ∙ ap (λ j. (awaited_in (seat_at seats j), j) ∷ []) e)
    (λ (h : Has xs k).
    ap (λ b. cond b ((awaited_in (seat_at seats x), x) ∷ rest) rest) (ne_eqb x k (λ e. apart xs k k (subst (λ j. Lacks xs j) e differ.0) h refl))
    ∙ pairs-having seats k xs differ.1 h)
    has

pub pairs_is : (seats : List Seat) (owners : List (Option ℕ)) (order : Sequence) (queues : Lines) (words : List ℕ) (k : ℕ) → Agree seats owners order queues words → filter (λ (w : ℕ × ℕ). eqb w.1 k) (waiters_of seats order.stacks) ≡ pairs_if k (waits_for (seat_at seats k))
pairs_is seats owners order queues words k agree = decide (seat_at seats k) refl where
  none : waits_for (seat_at seats k) ≡ None → filter (λ (w : ℕ × ℕ). eqb w.1 k) (waiters_of seats order.stacks) ≡ pairs_if k (waits_for (seat_at seats k))
  none e =
      pairs-lacking seats k order.stacks (lacks_from order.stacks k (λ h. let w = agree.waiting k h in none_some w.0 (sym e ∙ ap waits_for w.1)))
      ∙ ap (pairs_if k) (sym e)

  decide : (s : Seat) → seat_at seats k ≡ s → filter (λ (w : ℕ × ℕ). eqb w.1 k) (waiters_of seats order.stacks) ≡ pairs_if k (waits_for (seat_at seats k))
  decide (Waits i) e =
      pairs-having seats k order.stacks agree.differ (agree.listed k i e)
      ∙ ap (λ s. (awaited_in s, k) ∷ []) e ∙ ap (λ s. pairs_if k (waits_for s)) (sym e)
  decide Resting e = none (ap waits_for e)
  decide Free e = none (ap waits_for e)
  decide (Holds i) e = none (ap waits_for e)

-- ---- the queues
map_cond : (b : Bool) (p : ℕ × ℕ) (ps : List (ℕ × ℕ)) → map (λ (w : ℕ × ℕ). w.1) (cond b (p ∷ ps) ps) ≡ cond b (p.1 ∷ map (λ (w : ℕ × ℕ). w.1) ps) (map (λ (w : ℕ × ℕ). w.1) ps)
map_cond true p ps = refl
map_cond false p ps = refl

queue_of_waiters : (seats : List Seat) (i : ℕ) (xs : List ℕ) → ((j : ℕ) → Has xs j → (n : ℕ) × (seat_at seats j ≡ Waits n)) → map (λ (w : ℕ × ℕ). w.1) (filter (λ (w : ℕ × ℕ). eqb w.0 i) (waiters_of seats xs)) ≡ filter (λ j. waits i (seat_at seats j)) xs
queue_of_waiters seats i [] waiting = refl
queue_of_waiters seats i (x ∷ xs) waiting =
    let w = waiting x (inl refl) in
    let same : eqb (awaited_in (seat_at seats x)) i ≡ waits i (seat_at seats x) =
    ap (λ s. eqb (awaited_in s) i) w.1 ∙ sym (ap (waits i) w.1) in
    map_cond (eqb (awaited_in (seat_at seats x)) i) (awaited_in (seat_at seats x), x) (filter (λ (v : ℕ × ℕ). eqb v.0 i) (waiters_of seats xs))
    ∙ ap (λ ys. cond (eqb (awaited_in (seat_at seats x)) i) (x ∷ ys) ys) (queue_of_waiters seats i xs (λ j h. waiting j (inr h)))
    ∙ ap (λ b. cond b (x ∷ filter (λ j. waits i (seat_at seats j)) xs) (filter (λ j. waits i (seat_at seats j)) xs)) same

pub may_take_is : (seats : List Seat) (owners : List (Option ℕ)) (order : Sequence) (queues : Lines) (words : List ℕ) (k i n : ℕ) → Agree seats owners order queues words → may_take (table seats n order.stacks) k i ≡ is_none (link_at owners i) && is_first k (queue_at queues.lists i)
may_take_is seats owners order queues words k i n agree =
    ap (λ o. is_none o && is_first k (queue_of (table seats n order.stacks) i)) (owner_is seats owners order queues words i agree)
    ∙ ap (λ q. is_none (link_at owners i) && is_first k q) (queue_of_waiters seats i order.stacks agree.waiting ∙ sym (agree.lines i))

pub ready_is : (seats : List Seat) (owners : List (Option ℕ)) (order : Sequence) (queues : Lines) (words : List ℕ) (k n : ℕ) → Agree seats owners order queues words → is_member words k ≡ is_ready (table seats n order.stacks) k
ready_is seats owners order queues words k n agree = agree.ready k ∙ by_seat (seat_at seats k) where
  by_seat : (s : Seat) → ready_in owners queues.lists k s ≡ is_ready_in (table seats n order.stacks) k s
  by_seat Resting = refl
  by_seat Free = refl
  by_seat (Holds i) = refl
  by_seat (Waits i) = sym (may_take_is seats owners order queues words k i n agree)

first_eq : (queue : List ℕ) (k : ℕ) → option_eq nat_eq (first_of queue) (Some k) ≡ is_first k queue
first_eq [] k = refl
first_eq (x ∷ xs) k = refl

pub may_then : (o : Option ℕ) (queue : List ℕ) (k : ℕ) → is_some o ≡ false → option_eq nat_eq (first_of queue) (Some k) ≡ is_none o && is_first k queue
may_then None queue k e = first_eq queue k
may_then (Some x) queue k e = cc

pub may_else : (o : Option ℕ) (queue : List ℕ) (k : ℕ) → is_some o ≡ true → false ≡ is_none o && is_first k queue
may_else None queue k e = cc
may_else (Some x) queue k e = refl

-- ---- the list of waiters
first_waiter-of : (seats : List Seat) (xs : List ℕ) → first_waiter (waiters_of seats xs) ≡ first_of xs
first_waiter-of seats [] = refl
first_waiter-of seats (x ∷ xs) = refl

pub waiter_after-of : (seats : List Seat) (xs : List ℕ) (k : ℕ) → waiter_after (waiters_of seats xs) (Some k) ≡ stack_after xs k
waiter_after-of seats [] k = refl
waiter_after-of seats (x ∷ xs) k =
    ap (λ o. cond (eqb x k) o (waiter_after (waiters_of seats xs) (Some k))) (first_waiter-of seats xs)
    ∙ ap (λ o. cond (eqb x k) (first_of xs) o) (waiter_after-of seats xs k)

without_one : (seats : List Seat) (b : Bool) (x : ℕ) (xs ys : List ℕ) → cond b (waiters_of seats xs) ((awaited_in (seat_at seats x), x) ∷ waiters_of seats ys) ≡ waiters_of seats (cond b xs (x ∷ ys))
without_one seats true x xs ys = refl
without_one seats false x xs ys = refl

pub without_stack-of : (seats : List Seat) (xs : List ℕ) (k : ℕ) → without_stack (waiters_of seats xs) k ≡ waiters_of seats (without xs k)
without_stack-of seats [] k = refl
without_stack-of seats (x ∷ xs) k =
    ap (λ ws. cond (eqb x k) (waiters_of seats xs) ((awaited_in (seat_at seats x), x) ∷ ws)) (without_stack-of seats xs k)
    ∙ without_one seats (eqb x k) x xs (without xs k)

pub waits_some : (s : Seat) → IsSome (waits_for s) → (n : ℕ) × (s ≡ Waits n)
waits_some Resting e = absurd (false≢true e)
waits_some Free e = absurd (false≢true e)
waits_some (Waits n) e = (n, refl)
waits_some (Holds n) e = absurd (false≢true e)

-- ---- what the calls change
abbrev with_waiters : List Seat → ℕ → List (ℕ × ℕ) → LockTable
with_waiters seats instances waiters = record { seats = seats; waiters = waiters; instances = instances }

pub idle_view : (seats : List Seat) (n n' : ℕ) (stacks : List ℕ) (k place : ℕ) (s : Seat) (seen : LockTable) → Lacks stacks k → place ≡ k → n' ≡ n → table seats n stacks ≡ seen → table (set seats place s) n' stacks ≡ record seen { seats = set seen.seats k s }
idle_view seats n n' stacks k place s seen lacks place_is count view_is =
    ap (λ p. table (set seats p s) n' stacks) place_is
    ∙ ap (λ m. table (set seats k s) m stacks) count
    ∙ ap (with_waiters (set seats k s) n) (waiters-seat seats k s stacks lacks)
    ∙ ap (λ (t : LockTable). with_waiters (set t.seats k s) t.instances t.waiters) view_is

pub join_view : (seats : List Seat) (n : ℕ) (order order' : Sequence) (k i place : ℕ) (seen : LockTable) → k < length seats → Lacks order.stacks k → place ≡ k → order' ≡ record order { stacks = order.stacks ++ k ∷ [] } → table seats n order.stacks ≡ seen → table (set seats place (Waits i)) n order'.stacks ≡ record seen { seats = set seen.seats k (Waits i); waiters = seen.waiters ++ (i, k) ∷ [] }
join_view seats n order order' k i place seen within lacks place_is order_is view_is =
    ap (λ p. table (set seats p (Waits i)) n order'.stacks) place_is
    ∙ ap (λ (o : Sequence). table (set seats k (Waits i)) n o.stacks) order_is
    ∙ ap (with_waiters (set seats k (Waits i)) n)
    (map-append (λ j. (awaited_in (seat_at (set seats k (Waits i)) j), j)) order.stacks (k ∷ [])
    ∙ ap (λ ws. ws ++ (awaited_in (seat_at (set seats k (Waits i)) k), k) ∷ []) (waiters-seat seats k (Waits i) order.stacks lacks)
    ∙ ap (λ s. waiters_of seats order.stacks ++ (awaited_in s, k) ∷ []) (seat_same seats k k (Waits i) within refl))
    ∙ ap (λ (t : LockTable). with_waiters (set t.seats k (Waits i)) t.instances (t.waiters ++ (i, k) ∷ [])) view_is

pub take_view : (seats : List Seat) (n n' : ℕ) (order order' : Sequence) (k i place : ℕ) (seen : LockTable) → AllDiffer order.stacks → place ≡ k → n' ≡ n → order' ≡ record order { stacks = without order.stacks k } → table seats n order.stacks ≡ seen → table (set seats place (Holds i)) n' order'.stacks ≡ record seen { seats = set seen.seats k (Holds i); waiters = without_stack seen.waiters k }
take_view seats n n' order order' k i place seen differ place_is count order_is view_is =
    ap (λ p. table (set seats p (Holds i)) n' order'.stacks) place_is
    ∙ ap (λ m. table (set seats k (Holds i)) m order'.stacks) count
    ∙ ap (λ (o : Sequence). table (set seats k (Holds i)) n o.stacks) order_is
    ∙ ap (with_waiters (set seats k (Holds i)) n)
    (waiters-seat seats k (Holds i) (without order.stacks k) (lacks-without order.stacks k differ)
    ∙ sym (without_stack-of seats order.stacks k))
    ∙ ap (λ (t : LockTable). with_waiters (set t.seats k (Holds i)) t.instances (without_stack t.waiters k)) view_is

-- ---- the next ready stack
past_members : (seats : List Seat) (owners : List (Option ℕ)) (order : Sequence) (queues : Lines) (words : List ℕ) → Agree seats owners order queues words → (j : ℕ) → length seats ≤ j → is_member words j ≡ false
past_members seats owners order queues words agree j past =
    agree.ready j ∙ ap (ready_in owners queues.lists j) (get_or_past seats j Resting past)

start_within : (last : Option ℕ) (bound : ℕ) → ForSome last (λ s. s < bound) → start_after last ≤ bound
start_within None bound within = omega arith
start_within (Some s) bound within = let h = within s refl in omega (arith, h)

pub next_ready : (seats : List Seat) (owners : List (Option ℕ)) (order : Sequence) (queues : Lines) (words : List ℕ) (n start : ℕ) (last result : Option ℕ) (seen : LockTable) → Agree seats owners order queues words → table seats n order.stacks ≡ seen → start ≡ start_after last → ForSome last (λ s. s < length seen.seats) → ((bound : ℕ) → start ≤ bound → ((j : ℕ) → bound ≤ j → is_member words j ≡ false) → result ≡ find (is_member words) (numbers_from start bound)) → result ≡ ready_after seen last
next_ready seats owners order queues words n start last result seen agree view_is start_is within found =
    let P : LockTable → Type 0 = λ t. ForSome last (λ s. s < length t.seats) in
    let Q : ℕ → Type 0 = λ m. m ≤ length seats in
    let start_in : start ≤ length seats = subst Q (sym start_is) (start_within last (length seats) (subst P (sym view_is) within)) in
    found (length seats) start_in (past_members seats owners order queues words agree)
    ∙ find_agree (is_member words) (is_ready (table seats n order.stacks)) (λ k. ready_is seats owners order queues words k n agree) (numbers_from start (length seats))
    ∙ ap (λ m. find (is_ready (table seats n order.stacks)) (numbers_from m (length seats))) start_is
    ∙ ap (λ t. ready_after t last) view_is

find_one : (p : ℕ → Bool) (x k : ℕ) (rest : Option ℕ) (b : Bool) → p x ≡ b → (rest ≡ Some k → p k ≡ true) → cond b (Some x) rest ≡ Some k → p k ≡ true
find_one p x k rest true passes later e = ap p (sym (same_some x k e)) ∙ passes
find_one p x k rest false fails later e = later e

find_passes : (p : ℕ → Bool) (xs : List ℕ) (k : ℕ) → find p xs ≡ Some k → p k ≡ true
find_passes p [] k e = absurd (none_some k e)
find_passes p (x ∷ xs) k e = find_one p x k (find p xs) (p x) refl (find_passes p xs k) e

pub next_below : (seats : List Seat) (owners : List (Option ℕ)) (order : Sequence) (queues : Lines) (words : List ℕ) (n start k : ℕ) (last : Option ℕ) (seen : LockTable) → Agree seats owners order queues words → table seats n order.stacks ≡ seen → start ≡ start_after last → ForSome last (λ s. s < length seen.seats) → ((bound : ℕ) → start ≤ bound → ((j : ℕ) → bound ≤ j → is_member words j ≡ false) → Some k ≡ find (is_member words) (numbers_from start bound)) → k < 65536
next_below seats owners order queues words n start k last seen agree view_is start_is within found =
    let P : LockTable → Type 0 = λ t. ForSome last (λ s. s < length t.seats) in
    let Q : ℕ → Type 0 = λ m. m ≤ length seats in
    let start_in : start ≤ length seats = subst Q (sym start_is) (start_within last (length seats) (subst P (sym view_is) within)) in
    let member = find_passes (is_member words) (numbers_from start (length seats)) k (sym (found (length seats) start_in (past_members seats owners order queues words agree))) in
    let bounded = agree.bounded in
    ⊎_elim (λ (h : k < length seats). omega arith)
    (λ (h : length seats ≤ k). absurd (false≢true (sym (past_members seats owners order queues words agree k h) ∙ member)))
    (cases_lt k (length seats))
