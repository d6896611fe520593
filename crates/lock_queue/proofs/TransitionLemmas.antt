-- The parts of the locks agree at first, and still after each call.
use Rattle.std.proofs.Common.{◌≡◌, ◌≢◌, ℕ, ◌*◌, ◌<◌, ◌≤◌, List, [], ◌∷◌, ◌++◌, length, filter, replicate, Option, Some, None, is_none, ◌&&◌, Bool, true, false, cond, eqb, sym, refl, ap, subst, ◌∙◌, inl, ⊎_elim, arith}
use Rattle.std.proofs.Math.ListN.{set, length-set}
use Rattle.std.proofs.lemmas.List.{get_or-set_same, get_or-set_other, length-replicate, append-nil, get_or_past}
use Rattle.std.proofs.lemmas.Grind.{get_or-set_at}
use Rattle.std.proofs.lemmas.List.Elements.{filter-append}
use Rattle.std.proofs.lemmas.Bool.{eq-eqb, false≢true, cases_lt}
use Rattle.std.proofs.lemmas.Bool.Decides.{eqb_tells}
use Rattle.lock_queue.specs.declared.seat.Seat.{Seat}
use Rattle.lock_queue.specs.declared.seat.Seat.TheVariants.{Resting, Free, Waits, Holds}
use Rattle.lock_queue.specs.Links.{link_at, Lacks, Has, AllDiffer, without, first_of}
use Rattle.lock_queue.specs.Order.{Sequence}
use Rattle.lock_queue.specs.Queues.{Lines, queue_at}
use Rattle.lock_queue.specs.Ready.{is_member}
use Rattle.lock_queue.specs.LockTable.{seat_at, is_first, is_some_of, IsIdle}
use Rattle.lock_queue.specs.Agreement.{waits, ready_in, Agree}
use Rattle.lock_queue.proofs.LinkLemmas.{has_left, has_right, differ-push, apart}
use Rattle.lock_queue.proofs.QueueLemmas.{lacks_from, has_cases, has_without, get-replicate}
use Rattle.lock_queue.proofs.AgreementLemmas.{seat_same, seat_other, seat_from, waits_holds, holds_waits, resting_waits, resting_holds, free_waits, same_waits, same_holds, same_some, none_some, idle_waits, idle_holds, waits_true, waits_is, waits_other, filter-seat, filter-without_other, without-filter, differ-without, lacks-without, has_kept, is_first-push, is_first-new, is_first_other, first_passes, is_some-first}

-- a stack that doesn't wait stands in no list
pub unlisted : (seats : List Seat) (owners : List (Option ℕ)) (order : Sequence) (queues : Lines) (words : List ℕ) (k : ℕ) → Agree seats owners order queues words → ((i : ℕ) → seat_at seats k ≡ Waits i → ⊥) → Lacks order.stacks k
unlisted seats owners order queues words k agree idle =
    lacks_from order.stacks k (λ h. let w = agree.waiting k h in idle w.0 w.1)

-- a queue has stacks of the one list alone
lacks_one : (x : ℕ) (ys : List ℕ) (k : ℕ) (b : Bool) → x ≢ k → Lacks ys k → Lacks (cond b (x ∷ ys) ys) k
lacks_one x ys k true other lacks = (other, lacks)
lacks_one x ys k false other lacks = lacks

pub filter_lacks : (p : ℕ → Bool) (xs : List ℕ) (k : ℕ) → Lacks xs k → Lacks (filter p xs) k
filter_lacks p [] k lacks = tt
filter_lacks p (x ∷ xs) k lacks = lacks_one x (filter p xs) k (p x) lacks.0 (filter_lacks p xs k lacks.1)

pub queues_lack : (seats : List Seat) (owners : List (Option ℕ)) (order : Sequence) (queues : Lines) (words : List ℕ) (k : ℕ) → Agree seats owners order queues words → Lacks order.stacks k → (i : ℕ) → Lacks (queue_at queues.lists i) k
queues_lack seats owners order queues words k agree lacks i =
    let P : List ℕ → Type 0 = λ q. Lacks q k in
    subst P (sym (agree.lines i)) (filter_lacks (λ j. waits i (seat_at seats j)) order.stacks k lacks)

-- ---- the ready stacks after one seat was written
ready-set : (seats : List Seat) (owners : List (Option ℕ)) (lists : List (List ℕ)) (words words' : List ℕ) (k : ℕ) (s : Seat) (b : Bool) → k < length seats → ((j : ℕ) → is_member words' j ≡ cond (eqb j k) b (is_member words j)) → b ≡ ready_in owners lists k s → ((j : ℕ) → j ≢ k → is_member words j ≡ ready_in owners lists j (seat_at seats j)) → (j : ℕ) → is_member words' j ≡ ready_in owners lists j (seat_at (set seats k s) j)
ready-set seats owners lists words words' k s b within members here others j =
    ⊎_elim
    (λ (same : (eqb j k ≡ true) × (j ≡ k)).
    members j ∙ ap (λ c. cond c b (is_member words j)) same.0 ∙ here
    ∙ ap (λ n. ready_in owners lists n s) (sym same.1)
    ∙ ap (ready_in owners lists j) (sym (seat_same seats k j s within same.1)))
    (λ (other : (eqb j k ≡ false) × (j ≢ k)).
    members j ∙ ap (λ c. cond c b (is_member words j)) other.0 ∙ others j other.1
    ∙ ap (ready_in owners lists j) (sym (seat_other seats k j s other.1)))
    (eqb_tells j k)

-- ---- a stack without a lock rests or runs free
pub Agree-idle : (seats : List Seat) (owners : List (Option ℕ)) (order : Sequence) (queues : Lines) (words words' : List ℕ) (k : ℕ) (s : Seat) (b : Bool) → Agree seats owners order queues words → k < length seats → IsIdle (seat_at seats k) → IsIdle s → ((i : ℕ) → s ≡ Waits i → ⊥) → ((i : ℕ) → s ≡ Holds i → ⊥) → b ≡ ready_in owners queues.lists k s → length words' ≡ length words → ((j : ℕ) → is_member words' j ≡ cond (eqb j k) b (is_member words j)) → Agree (set seats k s) owners order queues words'
Agree-idle seats owners order queues words words' k s b agree within was_idle idle no_wait no_hold ready_is same_room members =
    let lacks = unlisted seats owners order queues words k agree (λ i e. idle_waits (seat_at seats k) i was_idle e) in
    let size = length-set seats k s in
    let bounded = agree.bounded in
    let room = agree.words_room in
    record {
      bounded = omega arith;
      order_room = agree.order_room ∙ sym size;
      queue_room = agree.queue_room ∙ sym size;
      queue_count = agree.queue_count;
      words_room = omega arith;
      differ = agree.differ;
      waits_within = λ j i e. agree.waits_within j i (seat_from seats k j s (Waits i) within (no_wait i) e).1;
      holds_within = λ j i e. agree.holds_within j i (seat_from seats k j s (Holds i) within (no_hold i) e).1;
      listed = λ j i e. agree.listed j i (seat_from seats k j s (Waits i) within (no_wait i) e).1;
      waiting = λ j h. let w = agree.waiting j h in
          (w.0, seat_other seats k j s (λ e. apart order.stacks k j lacks h (sym e)) ∙ w.1);
      owned = λ j i e. agree.owned j i (seat_from seats k j s (Holds i) within (no_hold i) e).1;
      owner = λ j i e. let held = agree.owner j i e in
          seat_other seats k j s (λ (f : j ≡ k). idle_holds (seat_at seats k) i was_idle (ap (seat_at seats) (sym f) ∙ held)) ∙ held;
      lines = λ i. agree.lines i ∙ sym (filter-seat seats k s i order.stacks lacks);
      ready = ready-set seats owners queues.lists words words' k s b within members ready_is (λ j other. agree.ready j);
    }

-- ---- a stack joins the waiters of an instance
ready_queue : (owners : List (Option ℕ)) (lists lists' : List (List ℕ)) (j : ℕ) (s : Seat) → ((i : ℕ) → is_first j (queue_at lists' i) ≡ is_first j (queue_at lists i)) → ready_in owners lists j s ≡ ready_in owners lists' j s
ready_queue owners lists lists' j Resting same = refl
ready_queue owners lists lists' j Free same = refl
ready_queue owners lists lists' j (Holds i) same = refl
ready_queue owners lists lists' j (Waits i) same = ap (λ b. is_none (link_at owners i) && b) (sym (same i))

queue-set : (lists : List (List ℕ)) (i : ℕ) (queue : List ℕ) (j n : ℕ) → i < length lists → is_first j queue ≡ is_first j (queue_at lists i) → is_first j (queue_at (set lists i queue) n) ≡ is_first j (queue_at lists n)
queue-set lists i queue j n within same =
    ⊎_elim
    (λ (here : (eqb n i ≡ true) × (n ≡ i)). ap (is_first j) (get_or-set_at lists i n queue [] here.1 within) ∙ same ∙ ap (λ m. is_first j (queue_at lists m)) (sym here.1))
    (λ (there : (eqb n i ≡ false) × (n ≢ i)). ap (is_first j) (get_or-set_other lists i n queue [] there.1))
    (eqb_tells n i)

lines-push : (seats : List Seat) (lists : List (List ℕ)) (xs : List ℕ) (k i n : ℕ) → k < length seats → i < length lists → Lacks xs k → ((m : ℕ) → queue_at lists m ≡ filter (λ j. waits m (seat_at seats j)) xs) → queue_at (set lists i (queue_at lists i ++ k ∷ [])) n ≡ filter (λ j. waits n (seat_at (set seats k (Waits i)) j)) (xs ++ k ∷ [])
lines-push seats lists xs k i n k_in i_in lacks lines =
    ⊎_elim
    (λ (here : (eqb n i ≡ true) × (n ≡ i)).
    get_or-set_at lists i n (queue_at lists i ++ k ∷ []) [] here.1 i_in
    ∙ ap (λ m. queue_at lists m ++ k ∷ []) (sym here.1)
    ∙ ap (λ q. q ++ k ∷ []) (lines n ∙ sym (filter-seat seats k (Waits i) n xs lacks))
    ∙ sym (filter-append (λ j. waits n (seat_at (set seats k (Waits i)) j)) xs (k ∷ [])
    ∙ ap (λ b. filter (λ j. waits n (seat_at (set seats k (Waits i)) j)) xs ++ cond b (k ∷ []) [])
    (waits_is n (seat_at (set seats k (Waits i)) k) (seat_same seats k k (Waits i) k_in refl ∙ ap Waits (sym here.1)))))
    (λ (there : (eqb n i ≡ false) × (n ≢ i)).
    get_or-set_other lists i n (queue_at lists i ++ k ∷ []) [] there.1
    ∙ lines n ∙ sym (filter-seat seats k (Waits i) n xs lacks) ∙ sym (append-nil (filter (λ j. waits n (seat_at (set seats k (Waits i)) j)) xs))
    ∙ sym (filter-append (λ j. waits n (seat_at (set seats k (Waits i)) j)) xs (k ∷ [])
    ∙ ap (λ b. filter (λ j. waits n (seat_at (set seats k (Waits i)) j)) xs ++ cond b (k ∷ []) [])
    (waits_other i n (seat_at (set seats k (Waits i)) k) (seat_same seats k k (Waits i) k_in refl) there.1)))
    (eqb_tells n i)

pub Agree-join : (seats : List Seat) (owners : List (Option ℕ)) (order : Sequence) (queues : Lines) (words words' : List ℕ) (k i : ℕ) (b : Bool) → Agree seats owners order queues words → k < length seats → i < length owners → IsIdle (seat_at seats k) → b ≡ is_none (link_at owners i) && is_none (first_of (queue_at queues.lists i)) → length words' ≡ length words → ((j : ℕ) → is_member words' j ≡ cond (eqb j k) b (is_member words j)) → Agree (set seats k (Waits i)) owners (record order { stacks = order.stacks ++ k ∷ [] }) (record queues { lists = set queues.lists i (queue_at queues.lists i ++ k ∷ []) }) words'
Agree-join seats owners order queues words words' k i b agree k_in i_in idle b_is same_room members =
    let lacks = unlisted seats owners order queues words k agree (λ n e. idle_waits (seat_at seats k) n idle e) in
    let queue_lacks = queues_lack seats owners order queues words k agree lacks i in
    let size = length-set seats k (Waits i) in
    let count = length-set queues.lists i (queue_at queues.lists i ++ k ∷ []) in
    let bounded = agree.bounded in
    let room = agree.words_room in
    let same_count = agree.queue_count in
    let i_list : i < length queues.lists = omega arith in
    let here : b ≡ ready_in owners (set queues.lists i (queue_at queues.lists i ++ k ∷ [])) k (Waits i) =
    b_is
    ∙ ap (λ c. is_none (link_at owners i) && c) (sym (ap (is_first k) (get_or-set_same queues.lists i (queue_at queues.lists i ++ k ∷ []) [] i_list) ∙ is_first-new (queue_at queues.lists i) k queue_lacks)) in
    record {
      bounded = omega arith;
      order_room = agree.order_room ∙ sym size;
      queue_room = agree.queue_room ∙ sym size;
      queue_count = count ∙ agree.queue_count;
      words_room = omega arith;
      differ = differ-push order.stacks k agree.differ lacks;
      waits_within = λ j n e.
          ⊎_elim
          (λ (same : (eqb j k ≡ true) × (j ≡ k)).
          let P : ℕ → Type 0 = λ m. m < length owners in
          subst P (same_waits i n (sym (seat_same seats k j (Waits i) k_in same.1) ∙ e)) i_in)
          (λ (other : (eqb j k ≡ false) × (j ≢ k)). agree.waits_within j n (sym (seat_other seats k j (Waits i) other.1) ∙ e))
          (eqb_tells j k);
      holds_within = λ j n e. agree.holds_within j n (seat_from seats k j (Waits i) (Holds n) k_in (waits_holds i n) e).1;
      listed = λ j n e.
          ⊎_elim
          (λ (same : (eqb j k ≡ true) × (j ≡ k)). has_right order.stacks (k ∷ []) j (inl (sym same.1)))
          (λ (other : (eqb j k ≡ false) × (j ≢ k)). has_left order.stacks (k ∷ []) j (agree.listed j n (sym (seat_other seats k j (Waits i) other.1) ∙ e)))
          (eqb_tells j k);
      waiting = λ j h.
          ⊎_elim
          (λ (old : Has order.stacks j). let w = agree.waiting j old in
          (w.0, seat_other seats k j (Waits i) (λ e. apart order.stacks k j lacks old (sym e)) ∙ w.1))
          (λ (new : k ≡ j). (i, seat_same seats k j (Waits i) k_in (sym new)))
          (has_cases order.stacks k j h);
      owned = λ j n e. agree.owned j n (seat_from seats k j (Waits i) (Holds n) k_in (waits_holds i n) e).1;
      owner = λ j n e. let held = agree.owner j n e in
          seat_other seats k j (Waits i) (λ (f : j ≡ k). idle_holds (seat_at seats k) n idle (ap (seat_at seats) (sym f) ∙ held)) ∙ held;
      lines = λ n. lines-push seats queues.lists order.stacks k i n k_in i_list lacks agree.lines;
      ready = ready-set seats owners (set queues.lists i (queue_at queues.lists i ++ k ∷ [])) words words' k (Waits i) b k_in members here
          (λ j other. agree.ready j ∙ ready_queue owners queues.lists (set queues.lists i (queue_at queues.lists i ++ k ∷ [])) j (seat_at seats j)
          (λ n. queue-set queues.lists i (queue_at queues.lists i ++ k ∷ []) j n i_list (is_first-push (queue_at queues.lists i) k j other)));
    }

-- ---- the first waiter takes its instance
and_left : (a b : Bool) → a && b ≡ true → a ≡ true
and_left true b e = refl
and_left false b e = e

pub and_right : (a b : Bool) → a && b ≡ true → b ≡ true
and_right true b e = e
and_right false b e = absurd (false≢true e)

and_false : (a b : Bool) → b ≡ false → a && b ≡ false
and_false true b e = e
and_false false b e = refl

none_is : (o : Option ℕ) → is_none o ≡ true → o ≡ None
none_is None e = refl
none_is (Some x) e = cc

lines-take : (seats : List Seat) (lists : List (List ℕ)) (xs : List ℕ) (k i n : ℕ) → i < length lists → AllDiffer xs → seat_at seats k ≡ Waits i → ((m : ℕ) → queue_at lists m ≡ filter (λ j. waits m (seat_at seats j)) xs) → queue_at (set lists i (without (queue_at lists i) k)) n ≡ filter (λ j. waits n (seat_at (set seats k (Holds i)) j)) (without xs k)
lines-take seats lists xs k i n i_in differ seat lines =
    ⊎_elim
    (λ (here : (eqb n i ≡ true) × (n ≡ i)).
    get_or-set_at lists i n (without (queue_at lists i) k) [] here.1 i_in
    ∙ ap (λ m. without (queue_at lists m) k) (sym here.1)
    ∙ ap (λ q. without q k) (lines n)
    ∙ sym (filter-seat seats k (Holds i) n (without xs k) (lacks-without xs k differ)
    ∙ without-filter (λ j. waits n (seat_at seats j)) xs k (waits_is n (seat_at seats k) (seat ∙ ap Waits (sym here.1)))))
    (λ (there : (eqb n i ≡ false) × (n ≢ i)).
    get_or-set_other lists i n (without (queue_at lists i) k) [] there.1
    ∙ lines n
    ∙ sym (filter-seat seats k (Holds i) n (without xs k) (lacks-without xs k differ)
    ∙ filter-without_other (λ j. waits n (seat_at seats j)) xs k (waits_other i n (seat_at seats k) seat there.1)))
    (eqb_tells n i)

ready_taken : (owners : List (Option ℕ)) (lists : List (List ℕ)) (k i j : ℕ) (queue : List ℕ) (s : Seat) → i < length owners → i < length lists → j ≢ k → is_first k (queue_at lists i) ≡ true → ready_in owners lists j s ≡ ready_in (set owners i (Some k)) (set lists i queue) j s
ready_taken owners lists k i j queue Resting i_in i_list other first = refl
ready_taken owners lists k i j queue Free i_in i_list other first = refl
ready_taken owners lists k i j queue (Holds n) i_in i_list other first = refl
ready_taken owners lists k i j queue (Waits n) i_in i_list other first =
    ⊎_elim
    (λ (here : (eqb n i ≡ true) × (n ≡ i)).
    and_false (is_none (link_at owners n)) (is_first j (queue_at lists n)) (ap (λ m. is_first j (queue_at lists m)) here.1 ∙ is_first_other (queue_at lists i) k j first other)
    ∙ sym (ap (λ o. is_none o && is_first j (queue_at (set lists i queue) n)) (get_or-set_at owners i n (Some k) None here.1 i_in)))
    (λ (there : (eqb n i ≡ false) × (n ≢ i)).
    ap (λ o. is_none o && is_first j (queue_at lists n)) (sym (get_or-set_other owners i n (Some k) None there.1))
    ∙ ap (λ q. is_none (link_at (set owners i (Some k)) n) && is_first j q) (sym (get_or-set_other lists i n queue [] there.1)))
    (eqb_tells n i)

pub Agree-take : (seats : List Seat) (owners : List (Option ℕ)) (order : Sequence) (queues : Lines) (words : List ℕ) (k i : ℕ) → Agree seats owners order queues words → k < length seats → i < length owners → seat_at seats k ≡ Waits i → is_none (link_at owners i) && is_first k (queue_at queues.lists i) ≡ true → Agree (set seats k (Holds i)) (set owners i (Some k)) (record order { stacks = without order.stacks k }) (record queues { lists = set queues.lists i (without (queue_at queues.lists i) k) }) words
Agree-take seats owners order queues words k i agree k_in i_in seat may =
    let size = length-set seats k (Holds i) in
    let count = length-set queues.lists i (without (queue_at queues.lists i) k) in
    let owner_count = length-set owners i (Some k) in
    let bounded = agree.bounded in
    let room = agree.words_room in
    let same_count = agree.queue_count in
    let i_list : i < length queues.lists = omega arith in
    let first = and_right (is_none (link_at owners i)) (is_first k (queue_at queues.lists i)) may in
    let unowned = none_is (link_at owners i) (and_left (is_none (link_at owners i)) (is_first k (queue_at queues.lists i)) may) in
    record {
      bounded = omega arith;
      order_room = agree.order_room ∙ sym size;
      queue_room = agree.queue_room ∙ sym size;
      queue_count = count ∙ agree.queue_count ∙ sym owner_count;
      words_room = omega arith;
      differ = differ-without order.stacks k agree.differ;
      waits_within = λ j n e. let h = agree.waits_within j n (seat_from seats k j (Holds i) (Waits n) k_in (holds_waits i n) e).1 in omega (arith, h, owner_count);
      holds_within = λ j n e.
          ⊎_elim
          (λ (same : (eqb j k ≡ true) × (j ≡ k)).
          let P : ℕ → Type 0 = λ m. m < length (set owners i (Some k)) in
          subst P (same_holds i n (sym (seat_same seats k j (Holds i) k_in same.1) ∙ e)) (omega (arith, owner_count)))
          (λ (other : (eqb j k ≡ false) × (j ≢ k)).
          let h = agree.holds_within j n (sym (seat_other seats k j (Holds i) other.1) ∙ e) in omega (arith, h, owner_count))
          (eqb_tells j k);
      listed = λ j n e. let old = seat_from seats k j (Holds i) (Waits n) k_in (holds_waits i n) e in
          has_kept order.stacks k j (agree.listed j n old.1) old.0;
      waiting = λ j h. let w = agree.waiting j (has_without order.stacks k j h) in
          (w.0, seat_other seats k j (Holds i) (λ e. apart (without order.stacks k) k j (lacks-without order.stacks k agree.differ) h (sym e)) ∙ w.1);
      owned = λ j n e.
          ⊎_elim
          (λ (same : (eqb j k ≡ true) × (j ≡ k)).
          get_or-set_at owners i n (Some k) None (sym (same_holds i n (sym (seat_same seats k j (Holds i) k_in same.1) ∙ e))) i_in ∙ ap Some (sym same.1))
          (λ (other : (eqb j k ≡ false) × (j ≢ k)).
          let held = agree.owned j n (sym (seat_other seats k j (Holds i) other.1) ∙ e) in
          get_or-set_other owners i n (Some k) None (λ (f : n ≡ i). none_some j (sym unowned ∙ ap (link_at owners) (sym f) ∙ held)) ∙ held)
          (eqb_tells j k);
      owner = λ j n e.
          ⊎_elim
          (λ (here : (eqb n i ≡ true) × (n ≡ i)).
          seat_same seats k j (Holds i) k_in (sym (same_some k j (sym (get_or-set_at owners i n (Some k) None here.1 i_in) ∙ e))) ∙ ap Holds (sym here.1))
          (λ (there : (eqb n i ≡ false) × (n ≢ i)).
          let held = agree.owner j n (sym (get_or-set_other owners i n (Some k) None there.1) ∙ e) in
          seat_other seats k j (Holds i) (λ (f : j ≡ k). waits_holds i n (sym seat ∙ ap (seat_at seats) (sym f) ∙ held)) ∙ held)
          (eqb_tells n i);
      lines = λ n. lines-take seats queues.lists order.stacks k i n i_list agree.differ seat agree.lines;
      ready = λ j.
          ⊎_elim
          (λ (same : (eqb j k ≡ true) × (j ≡ k)).
          ap (is_member words) same.1 ∙ agree.ready k ∙ ap (ready_in owners queues.lists k) seat ∙ may
          ∙ ap (ready_in (set owners i (Some k)) (set queues.lists i (without (queue_at queues.lists i) k)) j) (sym (seat_same seats k j (Holds i) k_in same.1)))
          (λ (other : (eqb j k ≡ false) × (j ≢ k)).
          agree.ready j ∙ ready_taken owners queues.lists k i j (without (queue_at queues.lists i) k) (seat_at seats j) i_in i_list other.1 first
          ∙ ap (ready_in (set owners i (Some k)) (set queues.lists i (without (queue_at queues.lists i) k)) j) (sym (seat_other seats k j (Holds i) other.1)))
          (eqb_tells j k);
    }

-- ---- a holder releases its instance
pub first_waits : (seats : List Seat) (owners : List (Option ℕ)) (order : Sequence) (queues : Lines) (words : List ℕ) (i j : ℕ) → Agree seats owners order queues words → is_first j (queue_at queues.lists i) ≡ true → seat_at seats j ≡ Waits i
first_waits seats owners order queues words i j agree first =
    waits_true i (seat_at seats j) (first_passes (λ n. waits i (seat_at seats n)) order.stacks j (ap (is_first j) (sym (agree.lines i)) ∙ first))

not_first : (lists : List (List ℕ)) (i j : ℕ) (s : Seat) → (is_first j (queue_at lists i) ≡ true → s ≡ Waits i) → (s ≡ Waits i → ⊥) → is_first j (queue_at lists i) ≡ false
not_first lists i j s waits_here differs = decide (is_first j (queue_at lists i)) refl where
  decide : (b : Bool) → is_first j (queue_at lists i) ≡ b → is_first j (queue_at lists i) ≡ false
  decide true e = absurd (differs (waits_here e))
  decide false e = e

ready_released : (owners : List (Option ℕ)) (lists : List (List ℕ)) (k i j : ℕ) (member : Bool) (s : Seat) → i < length owners → link_at owners i ≡ Some k → (is_first j (queue_at lists i) ≡ true → s ≡ Waits i) → member ≡ ready_in owners lists j s → cond (is_first j (queue_at lists i)) true member ≡ ready_in (set owners i None) lists j s
ready_released owners lists k i j member Resting i_in owned waits_here is =
    ap (λ b. cond b true member) (not_first lists i j Resting waits_here (resting_waits i)) ∙ is
ready_released owners lists k i j member Free i_in owned waits_here is =
    ap (λ b. cond b true member) (not_first lists i j Free waits_here (free_waits i)) ∙ is
ready_released owners lists k i j member (Holds n) i_in owned waits_here is =
    ap (λ b. cond b true member) (not_first lists i j (Holds n) waits_here (holds_waits n i)) ∙ is
ready_released owners lists k i j member (Waits n) i_in owned waits_here is =
    ⊎_elim
    (λ (here : (eqb n i ≡ true) × (n ≡ i)).
    ap (cond (is_first j (queue_at lists i)) true) (is ∙ ap (λ o. is_none o && is_first j (queue_at lists n)) (ap (link_at owners) here.1 ∙ owned))
    ∙ cond_true (is_first j (queue_at lists i))
    ∙ ap (λ m. is_first j (queue_at lists m)) (sym here.1)
    ∙ sym (ap (λ o. is_none o && is_first j (queue_at lists n)) (get_or-set_at owners i n None None here.1 i_in)))
    (λ (there : (eqb n i ≡ false) × (n ≢ i)).
    ap (λ b. cond b true member) (not_first lists i j (Waits n) waits_here (λ e. there.1 (same_waits n i e)))
    ∙ is ∙ ap (λ o. is_none o && is_first j (queue_at lists n)) (sym (get_or-set_other owners i n None None there.1)))
    (eqb_tells n i)
  where
    cond_true : (b : Bool) → cond b true false ≡ b
    cond_true true = refl
    cond_true false = refl

pub Agree-release : (seats : List Seat) (owners : List (Option ℕ)) (order : Sequence) (queues : Lines) (words words' : List ℕ) (k i : ℕ) → Agree seats owners order queues words → k < length seats → seat_at seats k ≡ Holds i → length words' ≡ length words → ((j : ℕ) → is_member words' j ≡ cond (is_some_of j (first_of (queue_at queues.lists i))) true (cond (eqb j k) false (is_member words j))) → Agree (set seats k Resting) (set owners i None) order queues words'
Agree-release seats owners order queues words words' k i agree k_in seat same_room members =
    let size = length-set seats k Resting in
    let owner_count = length-set owners i None in
    let i_in = agree.holds_within k i seat in
    let owned = agree.owned k i seat in
    let bounded = agree.bounded in
    let room = agree.words_room in
    let lacks = unlisted seats owners order queues words k agree (λ n e. holds_waits i n (sym seat ∙ e)) in
    record {
      bounded = omega arith;
      order_room = agree.order_room ∙ sym size;
      queue_room = agree.queue_room ∙ sym size;
      queue_count = agree.queue_count ∙ sym owner_count;
      words_room = omega arith;
      differ = agree.differ;
      waits_within = λ j n e. let h = agree.waits_within j n (seat_from seats k j Resting (Waits n) k_in (resting_waits n) e).1 in omega (arith, h, owner_count);
      holds_within = λ j n e. let h = agree.holds_within j n (seat_from seats k j Resting (Holds n) k_in (resting_holds n) e).1 in omega (arith, h, owner_count);
      listed = λ j n e. agree.listed j n (seat_from seats k j Resting (Waits n) k_in (resting_waits n) e).1;
      waiting = λ j h. let w = agree.waiting j h in
          (w.0, seat_other seats k j Resting (λ e. apart order.stacks k j lacks h (sym e)) ∙ w.1);
      owned = λ j n e. let old = seat_from seats k j Resting (Holds n) k_in (resting_holds n) e in
          let held = agree.owned j n old.1 in
          get_or-set_other owners i n None None (λ (f : n ≡ i). old.0 (sym (same_some k j (sym owned ∙ ap (link_at owners) (sym f) ∙ held)))) ∙ held;
      owner = λ j n e.
          ⊎_elim
          (λ (here : (eqb n i ≡ true) × (n ≡ i)). absurd (none_some j (sym (get_or-set_at owners i n None None here.1 i_in) ∙ e)))
          (λ (there : (eqb n i ≡ false) × (n ≢ i)).
          let held = agree.owner j n (sym (get_or-set_other owners i n None None there.1) ∙ e) in
          seat_other seats k j Resting (λ (f : j ≡ k). there.1 (sym (same_holds i n (sym seat ∙ ap (seat_at seats) (sym f) ∙ held)))) ∙ held)
          (eqb_tells n i);
      lines = λ n. agree.lines n ∙ sym (filter-seat seats k Resting n order.stacks lacks);
      ready = λ j.
          ⊎_elim
          (λ (same : (eqb j k ≡ true) × (j ≡ k)).
          members j
          ∙ ap (λ b. cond b true (cond (eqb j k) false (is_member words j))) (is_some-first (queue_at queues.lists i) j ∙ not_first queues.lists i j (seat_at seats j) (first_waits seats owners order queues words i j agree) (λ e. holds_waits i i (sym seat ∙ ap (seat_at seats) (sym same.1) ∙ e)))
          ∙ ap (λ b. cond b false (is_member words j)) same.0
          ∙ ap (ready_in (set owners i None) queues.lists j) (sym (seat_same seats k j Resting k_in same.1)))
          (λ (other : (eqb j k ≡ false) × (j ≢ k)).
          members j
          ∙ ap (λ b. cond b true (cond (eqb j k) false (is_member words j))) (is_some-first (queue_at queues.lists i) j)
          ∙ ap (λ b. cond (is_first j (queue_at queues.lists i)) true (cond b false (is_member words j))) other.0
          ∙ ready_released owners queues.lists k i j (is_member words j) (seat_at seats j) i_in owned (first_waits seats owners order queues words i j agree) (agree.ready j)
          ∙ ap (ready_in (set owners i None) queues.lists j) (sym (seat_other seats k j Resting other.1)))
          (eqb_tells j k);
    }

-- ---- at first all stacks rest
pub Agree-resting : (stacks instances : ℕ) (words : List ℕ) (order : Sequence) (queues : Lines) → stacks < 65536 → stacks ≤ 64 * length words → ((j : ℕ) → is_member words j ≡ false) → order ≡ record { room = stacks; stacks = [] } → queues ≡ record { room = stacks; lists = replicate instances [] } → Agree (replicate stacks Resting) (replicate instances None) order queues words
Agree-resting stacks instances words order queues bounded room empty order_is queues_is =
    let P : Sequence → Type 0 = λ o. Agree (replicate stacks Resting) (replicate instances None) o queues words in
    let Q : Lines → Type 0 = λ q. Agree (replicate stacks Resting) (replicate instances None) (record { room = stacks; stacks = [] }) q words in
    let size = length-replicate stacks Resting in
    let count = length-replicate {A = Option ℕ} instances None in
    let lists = length-replicate {A = List ℕ} instances [] in
    let rests : (j : ℕ) → seat_at (replicate stacks Resting) j ≡ Resting = λ j. get-replicate stacks j Resting in
    subst P (sym order_is) (subst Q (sym queues_is) (record {
      bounded = omega arith;
      order_room = sym size;
      queue_room = sym size;
      queue_count = lists ∙ sym count;
      words_room = omega arith;
      differ = tt;
      waits_within = λ j n e. absurd (resting_waits n (sym (rests j) ∙ e));
      holds_within = λ j n e. absurd (resting_holds n (sym (rests j) ∙ e));
      listed = λ j n e. absurd (resting_waits n (sym (rests j) ∙ e));
      waiting = λ j h. elim h [ ];
      owned = λ j n e. absurd (resting_holds n (sym (rests j) ∙ e));
      owner = λ j n e. absurd (none_some j (sym (get-replicate instances n None) ∙ e));
      lines = λ n. get-replicate instances n [];
      ready = λ j. empty j ∙ ap (ready_in (replicate instances None) (replicate instances []) j) (sym (rests j));
    }))

-- the first of a queue is a stack
pub first_within : (seats : List Seat) (owners : List (Option ℕ)) (order : Sequence) (queues : Lines) (words : List ℕ) (i j : ℕ) → Agree seats owners order queues words → first_of (queue_at queues.lists i) ≡ Some j → j < length seats
first_within seats owners order queues words i j agree first =
    let waits_here = first_waits seats owners order queues words i j agree (sym (is_some-first (queue_at queues.lists i) j) ∙ ap (is_some_of j) first ∙ eq-eqb j j refl) in
    ⊎_elim (λ (h : j < length seats). h)
    (λ (h : length seats ≤ j). absurd (resting_waits i (sym (get_or_past seats j Resting h) ∙ waits_here)))
    (cases_lt j (length seats))
