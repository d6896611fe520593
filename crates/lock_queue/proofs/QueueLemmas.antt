-- The queues after a stack was put at the end of one, or taken out at its front.
use Rattle.std.proofs.Common.{◌≡◌, ◌≢◌, ℕ, zero, suc, ◌<◌, ◌≤◌, List, [], ◌∷◌, ◌++◌, length, map, replicate, Option, Some, None, Bool, true, false, cond, eqb, get_or, sym, refl, ap, subst, ◌∙◌, inl, inr, ◌⊎◌, ⊎_elim, arith}
use Rattle.std.proofs.Math.ListN.{set, length-set}
use Rattle.std.proofs.lemmas.List.{get_or-set_other, get_or_past, length-replicate}
use Rattle.std.proofs.lemmas.Grind.{get_or-set_at}
use Rattle.std.proofs.lemmas.Bool.{eq-eqb}
use Rattle.std.proofs.lemmas.Bool.Decides.{eqb_tells}
use Rattle.std.specs.List.{last_or}
use Rattle.std.specs.Option.{ForSome}
use Rattle.lock_queue.specs.Links.{link_at, Leads, Lacks, Has, AllBelow, without, walk, first_of, relinked, end_after}
use Rattle.lock_queue.specs.Queues.{Lines, queue_at, IsQueue, AreQueues, last_after, lines_of}
use Rattle.lock_queue.proofs.LinkLemmas.{apart, differ-push, below-push, below_has, last_or-append, last_has, leads-frame, walk_leads, length-le_room}
use Rattle.lock_queue.proofs.OrderLemmas.{after_push, push_leads, length-relinked, last_below, leads_first, read_link}

-- ---- the lists are those that the walks give
lists_are : (next : List (Option ℕ)) (n : ℕ) (firsts : List (Option ℕ)) (lists : List (List ℕ)) → length firsts ≡ length lists → ((i : ℕ) → Leads next (link_at firsts i) (queue_at lists i) × (length (queue_at lists i) ≤ n)) → map (walk n next) firsts ≡ lists
lists_are next n [] [] same each = refl
lists_are next n [] (q ∷ qs) same each = absurd (omega arith)
lists_are next n (f ∷ fs) [] same each = absurd (omega arith)
lists_are next n (f ∷ fs) (q ∷ qs) same each =
    ap (λ ys. ys ∷ map (walk n next) fs) (walk_leads n next f q (each 0).0 (each 0).1)
    ∙ ap (λ yss. q ∷ yss) (lists_are next n fs qs (omega arith) (λ i. each (suc i)))

pub lines_are : (next firsts lasts : List (Option ℕ)) (room : ℕ) (lists : List (List ℕ)) → AreQueues next firsts lasts room lists → lines_of next firsts ≡ lists
lines_are next firsts lasts room lists queues =
    let size = queues.next_room in
    lists_are next (length next) firsts lists queues.firsts_count (λ i.
    ((queues.each i).leads, omega (arith, length-le_room room (queue_at lists i) (queues.each i).differ (queues.each i).below)))

abbrev pub lines : ℕ → List (List ℕ) → Lines
lines room lists = record { room = room; lists = lists }

pub seen_is : (next firsts lasts : List (Option ℕ)) (room : ℕ) (lists : List (List ℕ)) → AreQueues next firsts lasts room lists → lines (length next) (lines_of next firsts) ≡ lines room lists
seen_is next firsts lasts room lists queues =
    ap (λ n. lines n (lines_of next firsts)) queues.next_room ∙ ap (λ ls. lines room ls) (lines_are next firsts lasts room lists queues)

pub AreQueues-walk : (next firsts lasts : List (Option ℕ)) (room : ℕ) (lists : List (List ℕ)) → AreQueues next firsts lasts room lists → AreQueues next firsts lasts (length next) (lines_of next firsts)
AreQueues-walk next firsts lasts room lists queues =
    let P : ℕ → Type 0 = λ n. AreQueues next firsts lasts n (lines_of next firsts) in
    let Q : List (List ℕ) → Type 0 = λ ls. AreQueues next firsts lasts room ls in
    subst P (sym queues.next_room) (subst Q (sym (lines_are next firsts lasts room lists queues)) queues)

pub seen_queues : (next firsts lasts : List (Option ℕ)) (seen : Lines) → lines (length next) (lines_of next firsts) ≡ seen → AreQueues next firsts lasts (length next) (lines_of next firsts) → AreQueues next firsts lasts seen.room seen.lists
seen_queues next firsts lasts seen e queues =
    let P : Lines → Type 0 = λ s. AreQueues next firsts lasts s.room s.lists in subst P e queues

-- ---- a push
pub lacks_from : (xs : List ℕ) (k : ℕ) → (Has xs k → ⊥) → Lacks xs k
lacks_from [] k none = tt
lacks_from (x ∷ xs) k none = ((λ e. none (inl e)), lacks_from xs k (λ h. none (inr h)))

-- another queue stays as it was
other_leads : (next : List (Option ℕ)) (start last : Option ℕ) (queue other : List ℕ) (k : ℕ) → Leads next start other → Lacks other k → last ≡ last_or None queue → ((s : ℕ) → Has queue s → Has other s → ⊥) → Leads (after_push next last k) start other
other_leads next start None queue other k leads lacks last_is disjoint = leads-frame next k None start other lacks leads
other_leads next start (Some b) [] other k leads lacks last_is disjoint = cc
other_leads next start (Some b) (x ∷ xs) other k leads lacks last_is disjoint =
    let lacks_b : Lacks other b = lacks_from other b (λ h. disjoint b (last_has x xs b (sym last_is)) h) in
    leads-frame (set next k None) b (Some k) start other lacks_b (leads-frame next k None start other lacks leads)

pushed_queue : (next : List (Option ℕ)) (first last : Option ℕ) (room : ℕ) (queue : List ℕ) (k : ℕ) → length next ≡ room → IsQueue next first last room queue → Lacks queue k → k < room → IsQueue (after_push next last k) (end_after first last (Some k)) (Some k) room (queue ++ k ∷ [])
pushed_queue next first last room queue k size is lacks within = record {
  leads = push_leads next first last queue k room size is.leads is.last_is is.differ is.below lacks within;
  last_is = sym (last_or-append None queue (k ∷ []));
  differ = differ-push queue k is.differ lacks;
  below = below-push room queue k is.below within;
}

-- one queue of the lists was written
pub each-set : (next : List (Option ℕ)) (firsts lasts : List (Option ℕ)) (room : ℕ) (lists : List (List ℕ)) (i : ℕ) (first last : Option ℕ) (queue : List ℕ) → i < length lists → length firsts ≡ length lists → length lasts ≡ length lists → IsQueue next first last room queue → ((j : ℕ) → j ≢ i → IsQueue next (link_at firsts j) (link_at lasts j) room (queue_at lists j)) → (j : ℕ) → IsQueue next (link_at (set firsts i first) j) (link_at (set lasts i last) j) room (queue_at (set lists i queue) j)
each-set next firsts lasts room lists i first last queue within firsts_is lasts_is here others j =
    ⊎_elim
    (λ (same : (eqb j i ≡ true) × (j ≡ i)).
    let P : Option ℕ → Type 0 = λ f. IsQueue next f (link_at (set lasts i last) j) room (queue_at (set lists i queue) j) in
    let Q : Option ℕ → Type 0 = λ l. IsQueue next first l room (queue_at (set lists i queue) j) in
    let R : List ℕ → Type 0 = λ q. IsQueue next first last room q in
    subst P (sym (get_or-set_at firsts i j first None same.1 (omega arith)))
    (subst Q (sym (get_or-set_at lasts i j last None same.1 (omega arith)))
    (subst R (sym (get_or-set_at lists i j queue [] same.1 within)) here)))
    (λ (other : (eqb j i ≡ false) × (j ≢ i)).
    let P : Option ℕ → Type 0 = λ f. IsQueue next f (link_at (set lasts i last) j) room (queue_at (set lists i queue) j) in
    let Q : Option ℕ → Type 0 = λ l. IsQueue next (link_at firsts j) l room (queue_at (set lists i queue) j) in
    let R : List ℕ → Type 0 = λ q. IsQueue next (link_at firsts j) (link_at lasts j) room q in
    subst P (sym (get_or-set_other firsts i j first None other.1))
    (subst Q (sym (get_or-set_other lasts i j last None other.1))
    (subst R (sym (get_or-set_other lists i j queue [] other.1)) (others j other.1))))
    (eqb_tells j i)

-- every stack of the new queue stood in the old one, or in none
pub apart-set : (lists : List (List ℕ)) (i : ℕ) (queue : List ℕ) → i < length lists → ((a b s : ℕ) → Has (queue_at lists a) s → Has (queue_at lists b) s → a ≡ b) → ((s j : ℕ) → Has queue s → Has (queue_at lists j) s → j ≡ i) → (a b s : ℕ) → Has (queue_at (set lists i queue) a) s → Has (queue_at (set lists i queue) b) s → a ≡ b
apart-set lists i queue within old_apart new_apart a b s has_a has_b =
    ⊎_elim
    (λ (a_is : (eqb a i ≡ true) × (a ≡ i)).
    ⊎_elim
    (λ (b_is : (eqb b i ≡ true) × (b ≡ i)). a_is.1 ∙ sym b_is.1)
    (λ (b_not : (eqb b i ≡ false) × (b ≢ i)).
    absurd (b_not.1 (new_apart s b (subst P (get_or-set_at lists i a queue [] a_is.1 within) has_a) (subst P (get_or-set_other lists i b queue [] b_not.1) has_b))))
    (eqb_tells b i))
    (λ (a_not : (eqb a i ≡ false) × (a ≢ i)).
    ⊎_elim
    (λ (b_is : (eqb b i ≡ true) × (b ≡ i)).
    absurd (a_not.1 (new_apart s a (subst P (get_or-set_at lists i b queue [] b_is.1 within) has_b) (subst P (get_or-set_other lists i a queue [] a_not.1) has_a))))
    (λ (b_not : (eqb b i ≡ false) × (b ≢ i)).
    old_apart a b s (subst P (get_or-set_other lists i a queue [] a_not.1) has_a) (subst P (get_or-set_other lists i b queue [] b_not.1) has_b))
    (eqb_tells b i))
    (eqb_tells a i)
  where
    P : List ℕ → Type 0
    P = λ q. Has q s

pub has_cases : (xs : List ℕ) (k s : ℕ) → Has (xs ++ k ∷ []) s → Has xs s ⊎ (k ≡ s)
has_cases [] k s has = ⊎_elim (λ e. inr e) (λ none. elim none [ ]) has
has_cases (x ∷ xs) k s has =
    ⊎_elim (λ e. inl (inl e)) (λ h. ⊎_elim (λ g. inl (inr g)) (λ e. inr e) (has_cases xs k s h)) has

pub lacks_has : (xs : List ℕ) (k s : ℕ) → Lacks xs k → Has xs s → k ≡ s → ⊥
lacks_has xs k s lacks has e = apart xs k s lacks has e

pub AreQueues-push : (next firsts lasts : List (Option ℕ)) (room : ℕ) (lists : List (List ℕ)) (i k : ℕ) → AreQueues next firsts lasts room lists → i < length lists → k < room → ((j : ℕ) → Lacks (queue_at lists j) k) → AreQueues (after_push next (link_at lasts i) k) (set firsts i (end_after (link_at firsts i) (link_at lasts i) (Some k))) (set lasts i (Some k)) room (set lists i (queue_at lists i ++ k ∷ []))
AreQueues-push next firsts lasts room lists i k queues i_in k_in new = record {
  next_room = length-relinked (set next k None) (link_at lasts i) (Some k) ∙ length-set next k None ∙ queues.next_room;
  firsts_count = length-set firsts i _ ∙ queues.firsts_count ∙ sym (length-set lists i _);
  lasts_count = length-set lasts i _ ∙ queues.lasts_count ∙ sym (length-set lists i _);
  each = each-set (after_push next (link_at lasts i) k) firsts lasts room lists i _ _ (queue_at lists i ++ k ∷ []) i_in queues.firsts_count queues.lasts_count
      (pushed_queue next (link_at firsts i) (link_at lasts i) room (queue_at lists i) k queues.next_room (queues.each i) (new i) k_in)
      (λ j other. record {
        leads = other_leads next (link_at firsts j) (link_at lasts i) (queue_at lists i) (queue_at lists j) k (queues.each j).leads (new j) (queues.each i).last_is (λ s here there. other (queues.apart j i s there here));
        last_is = (queues.each j).last_is;
        differ = (queues.each j).differ;
        below = (queues.each j).below;
      });
  apart = apart-set lists i (queue_at lists i ++ k ∷ []) i_in queues.apart (λ s j here there.
      ⊎_elim (λ old. queues.apart j i s there old) (λ e. absurd (lacks_has (queue_at lists j) k s (new j) there e)) (has_cases (queue_at lists i) k s here));
}

-- ---- a pop
popped_queue : (next : List (Option ℕ)) (first last : Option ℕ) (room : ℕ) (queue : List ℕ) (k : ℕ) → IsQueue next first last room queue → first_of queue ≡ Some k → IsQueue next (link_at next k) (last_after last (link_at next k)) room (without queue k)
popped_queue next first last room [] k is front = cc
popped_queue next first last room (x ∷ xs) k is front =
    let x_is : x ≡ k = cc in
    let rest_is : without (x ∷ xs) k ≡ xs = ap (λ b. cond b xs (x ∷ without xs k)) (eq-eqb x k x_is) in
    let P : List ℕ → Type 0 = λ q. IsQueue next (link_at next k) (last_after last (link_at next k)) room q in
    let Q : ℕ → Type 0 = λ n. Leads next (link_at next n) xs in
    let leads = subst Q x_is is.leads.1 in
    subst P (sym rest_is) (record {
      leads = leads;
      last_is = last_of_rest last x xs (link_at next k) is.last_is (leads_first next (link_at next k) xs leads);
      differ = is.differ.1;
      below = is.below.1;
    })
  where
    last_of_rest : (last : Option ℕ) (x : ℕ) (xs : List ℕ) (link : Option ℕ) → last ≡ last_or (Some x) xs → link ≡ first_of xs → last_after last link ≡ last_or None xs
    last_of_rest last x [] link last_is link_is = ap (last_after last) link_is
    last_of_rest last x (y ∷ ys) link last_is link_is = ap (last_after last) link_is ∙ last_is

pub has_without : (xs : List ℕ) (k s : ℕ) → Has (without xs k) s → Has xs s
has_without [] k s has = has
has_without (x ∷ xs) k s has = has_without_case x xs k s (eqb x k) (has_without xs k s) has where
  has_without_case : (x : ℕ) (xs : List ℕ) (k s : ℕ) (b : Bool) → (Has (without xs k) s → Has xs s) → Has (cond b xs (x ∷ without xs k)) s → Has (x ∷ xs) s
  has_without_case x xs k s true rest has = inr has
  has_without_case x xs k s false rest has = ⊎_elim (λ e. inl e) (λ h. inr (rest h)) has

front_in : (lists : List (List ℕ)) (i k : ℕ) → first_of (queue_at lists i) ≡ Some k → i < length lists
front_in [] i k front = absurd (no_front i front) where
  no_front : (i : ℕ) → first_of (queue_at [] i) ≡ Some k → ⊥
  no_front zero e = cc
  no_front (suc i) e = cc
front_in (q ∷ qs) zero k front = omega arith
front_in (q ∷ qs) (suc i) k front = let h = front_in qs i k front in omega (arith, h)

pub front_within : (next firsts lasts : List (Option ℕ)) (room : ℕ) (lists : List (List ℕ)) (i k : ℕ) → AreQueues next firsts lasts room lists → first_of (queue_at lists i) ≡ Some k → (i < length lists) × (k < room)
front_within next firsts lasts room lists i k queues front =
    (front_in lists i k front, below_first room (queue_at lists i) (queues.each i).below front)
  where
    below_first : (room : ℕ) (xs : List ℕ) → AllBelow room xs → first_of xs ≡ Some k → k < room
    below_first room [] below e = cc
    below_first room (x ∷ xs) below e = below_has room (x ∷ xs) k below (inl (cc))

pub AreQueues-pop : (next firsts lasts : List (Option ℕ)) (room : ℕ) (lists : List (List ℕ)) (i k : ℕ) → AreQueues next firsts lasts room lists → first_of (queue_at lists i) ≡ Some k → AreQueues next (set firsts i (link_at next k)) (set lasts i (last_after (link_at lasts i) (link_at next k))) room (set lists i (without (queue_at lists i) k))
AreQueues-pop next firsts lasts room lists i k queues front =
    let i_in = (front_within next firsts lasts room lists i k queues front).0 in
    record {
      next_room = queues.next_room;
      firsts_count = length-set firsts i _ ∙ queues.firsts_count ∙ sym (length-set lists i _);
      lasts_count = length-set lasts i _ ∙ queues.lasts_count ∙ sym (length-set lists i _);
      each = each-set next firsts lasts room lists i _ _ (without (queue_at lists i) k) i_in queues.firsts_count queues.lasts_count
          (popped_queue next (link_at firsts i) (link_at lasts i) room (queue_at lists i) k (queues.each i) front)
          (λ j other. queues.each j);
      apart = apart-set lists i (without (queue_at lists i) k) i_in queues.apart (λ s j here there. queues.apart j i s there (has_without (queue_at lists i) k s here));
    }

-- ---- no stack at all
pub get-replicate : {X : Type 0} (n k : ℕ) (a : X) → get_or (replicate n a) k a ≡ a
get-replicate zero k a = get_or_past [] k a (omega arith)
get-replicate (suc n) zero a = refl
get-replicate (suc n) (suc k) a = get-replicate n k a

pub has_none : (instances i k : ℕ) → Has (queue_at (replicate instances []) i) k → ⊥
has_none instances i k has =
    let P : List ℕ → Type 0 = λ q. Has q k in subst P (get-replicate instances i []) has

pub AreQueues-empty : (room instances : ℕ) → AreQueues (replicate room None) (replicate instances None) (replicate instances None) room (replicate instances [])
AreQueues-empty room instances = record {
  next_room = length-replicate room None;
  firsts_count = length-replicate instances None ∙ sym (length-replicate instances []);
  lasts_count = length-replicate instances None ∙ sym (length-replicate instances []);
  each = λ i.
      let P : Option ℕ → Type 0 = λ f. IsQueue (replicate room None) f (link_at (replicate instances None) i) room (queue_at (replicate instances []) i) in
      let Q : Option ℕ → Type 0 = λ l. IsQueue (replicate room None) None l room (queue_at (replicate instances []) i) in
      let R : List ℕ → Type 0 = λ q. IsQueue (replicate room None) None None room q in
      subst P (sym (get-replicate instances i None)) (subst Q (sym (get-replicate instances i None)) (subst R (sym (get-replicate instances i [])) (record { leads = refl; last_is = refl; differ = tt; below = tt })));
  apart = λ a b k here there. absurd (has_none instances a k here);
}

-- ---- the same, of what the code read and wrote
pub pushed_queues : (next firsts lasts : List (Option ℕ)) (room : ℕ) (lists : List (List ℕ)) (i k queue place : ℕ) (last first : Option ℕ) (next' : List (Option ℕ)) (first' : Option ℕ) → AreQueues next firsts lasts room lists → i < length lists → k < room → ((j : ℕ) → Lacks (queue_at lists j) k) → queue ≡ i → place ≡ k → last ≡ get_or lasts queue last → first ≡ get_or firsts queue first → next' ≡ relinked (set next place None) last (Some k) → first' ≡ end_after first last (Some k) → AreQueues next' (set firsts queue first') (set lasts queue (Some k)) room (set lists i (queue_at lists i ++ k ∷ []))
pushed_queues next firsts lasts room lists i k queue place last first next' first' queues i_in k_in new queue_is place_is last_read first_read next_is first_is =
    let count = queues.firsts_count in
    let count_lasts = queues.lasts_count in
    let last_is : last ≡ link_at lasts i = read_link lasts queue i last queue_is (omega arith) last_read in
    let front_is : first ≡ link_at firsts i = read_link firsts queue i first queue_is (omega arith) first_read in
    let next_same : next' ≡ after_push next (link_at lasts i) k =
    next_is ∙ ap (λ p. relinked (set next p None) last (Some k)) place_is ∙ ap (λ l. relinked (set next k None) l (Some k)) last_is in
    let first_same : first' ≡ end_after (link_at firsts i) (link_at lasts i) (Some k) =
    first_is ∙ ap (λ f. end_after f last (Some k)) front_is ∙ ap (λ l. end_after (link_at firsts i) l (Some k)) last_is in
    let P : List (Option ℕ) → Type 0 = λ n. AreQueues n (set firsts queue first') (set lasts queue (Some k)) room (set lists i (queue_at lists i ++ k ∷ [])) in
    let Q : Option ℕ → Type 0 = λ f. AreQueues (after_push next (link_at lasts i) k) (set firsts queue f) (set lasts queue (Some k)) room (set lists i (queue_at lists i ++ k ∷ [])) in
    let R : ℕ → Type 0 = λ q. AreQueues (after_push next (link_at lasts i) k) (set firsts q (end_after (link_at firsts i) (link_at lasts i) (Some k))) (set lasts q (Some k)) room (set lists i (queue_at lists i ++ k ∷ [])) in
    subst P (sym next_same) (subst Q (sym first_same) (subst R (sym queue_is) (AreQueues-push next firsts lasts room lists i k queues i_in k_in new)))

pub popped_queues : (next firsts lasts : List (Option ℕ)) (room : ℕ) (lists : List (List ℕ)) (i k queue place : ℕ) (link last last' : Option ℕ) → AreQueues next firsts lasts room lists → first_of (queue_at lists i) ≡ Some k → queue ≡ i → place ≡ k → link ≡ get_or next place link → last ≡ get_or lasts queue last → last' ≡ last_after last link → AreQueues next (set firsts queue link) (set lasts queue last') room (set lists i (without (queue_at lists i) k))
popped_queues next firsts lasts room lists i k queue place link last last' queues front queue_is place_is link_read last_read last_is =
    let within = front_within next firsts lasts room lists i k queues front in
    let size = queues.next_room in
    let count_lasts = queues.lasts_count in
    let link_is : link ≡ link_at next k = read_link next place k link place_is (omega arith) link_read in
    let old_last : last ≡ link_at lasts i = read_link lasts queue i last queue_is (omega arith) last_read in
    let last_same : last' ≡ last_after (link_at lasts i) (link_at next k) =
    last_is ∙ ap (λ l. last_after l link) old_last ∙ ap (last_after (link_at lasts i)) link_is in
    let P : Option ℕ → Type 0 = λ l. AreQueues next (set firsts queue l) (set lasts queue last') room (set lists i (without (queue_at lists i) k)) in
    let Q : Option ℕ → Type 0 = λ l. AreQueues next (set firsts queue (link_at next k)) (set lasts queue l) room (set lists i (without (queue_at lists i) k)) in
    let R : ℕ → Type 0 = λ q. AreQueues next (set firsts q (link_at next k)) (set lasts q (last_after (link_at lasts i) (link_at next k))) room (set lists i (without (queue_at lists i) k)) in
    subst P (sym link_is) (subst Q (sym last_same) (subst R (sym queue_is) (AreQueues-pop next firsts lasts room lists i k queues front)))

pub lasts_within : (next firsts lasts : List (Option ℕ)) (room : ℕ) (lists : List (List ℕ)) (i queue : ℕ) (last : Option ℕ) → AreQueues next firsts lasts room lists → i < length lists → queue ≡ i → last ≡ get_or lasts queue last → ForSome last (λ b. b < room)
lasts_within next firsts lasts room lists i queue last queues i_in queue_is last_read =
    let count_lasts = queues.lasts_count in
    let last_is : last ≡ link_at lasts i = read_link lasts queue i last queue_is (omega arith) last_read in
    λ b e. last_below room (queue_at lists i) b (queues.each i).below (sym (queues.each i).last_is ∙ sym last_is ∙ e)

pub made_queues : (next firsts lasts : List (Option ℕ)) (room instances : ℕ) → next ≡ replicate room None → firsts ≡ replicate instances None → lasts ≡ replicate instances None → AreQueues next firsts lasts room (replicate instances [])
made_queues next firsts lasts room instances next_is firsts_is lasts_is =
    let P : List (Option ℕ) → Type 0 = λ n. AreQueues n firsts lasts room (replicate instances []) in
    let Q : List (Option ℕ) → Type 0 = λ f. AreQueues (replicate room None) f lasts room (replicate instances []) in
    let R : List (Option ℕ) → Type 0 = λ l. AreQueues (replicate room None) (replicate instances None) l room (replicate instances []) in
    subst P (sym next_is) (subst Q (sym firsts_is) (subst R (sym lasts_is) (AreQueues-empty room instances)))
