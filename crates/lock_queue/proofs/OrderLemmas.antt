-- The linked list after a stack was put at its end or taken out.
use Rattle.std.proofs.Common.{◌≡◌, ℕ, ◌<◌, List, [], ◌∷◌, ◌++◌, length, Option, Some, None, cond, get_or, sym, refl, ap, subst, ◌∙◌, inl, inr, arith}
use Rattle.std.proofs.Math.ListN.{set, length-set}
use Rattle.std.proofs.lemmas.List.{get_or-set_same, get_or_read}
use Rattle.std.proofs.lemmas.Bool.{eq-eqb, ne_eqb}
use Rattle.std.specs.List.{last_or}
use Rattle.std.specs.Option.{ForSome}
use Rattle.lock_queue.specs.Links.{link_at, Leads, LeadsBack, Lacks, Has, AllDiffer, AllBelow, without, walk, first_of, stack_after, relinked, end_after}
use Rattle.lock_queue.specs.Order.{Sequence, IsLinked}
use Rattle.lock_queue.proofs.LinkLemmas.{has_left, has_right, apart, differ-push, below-push, below_has, differ_without, below_without, cut_at, last_or-append, last_has, leads-push, leads_after, leads-remove, back-push, before_is, back-remove_last, back-remove, walk_leads, length-le_room}

-- the links after a push
abbrev pub after_push : List (Option ℕ) → Option ℕ → ℕ → List (Option ℕ)
after_push after last k = relinked (set after k None) last (Some k)

pub length-relinked : (links : List (Option ℕ)) (from to : Option ℕ) → length (relinked links from to) ≡ length links
length-relinked links None to = refl
length-relinked links (Some k) to = length-set links k to

-- a list whose last stack is none has no stack
pub empty_from_last : (x : ℕ) (xs : List ℕ) → last_or (Some x) xs ≡ None → ⊥
empty_from_last x [] e = cc
empty_from_last x (y ∷ ys) e = empty_from_last y ys e

pub push_leads : (after : List (Option ℕ)) (first last : Option ℕ) (xs : List ℕ) (k room : ℕ) → length after ≡ room → Leads after first xs → last ≡ last_or None xs → AllDiffer xs → AllBelow room xs → Lacks xs k → k < room → Leads (after_push after last k) (end_after first last (Some k)) (xs ++ k ∷ [])
push_leads after first None [] k room size leads last_is differ below lacks within =
    (refl, get_or-set_same after k None None (omega arith))
push_leads after first None (x ∷ xs) k room size leads last_is differ below lacks within =
    absurd (empty_from_last x xs (sym last_is))
push_leads after first (Some b) [] k room size leads last_is differ below lacks within = cc
push_leads after first (Some b) (x ∷ xs) k room size leads last_is differ below lacks within =
    let b_in : b < room = below_has room (x ∷ xs) b below (last_has x xs b (sym last_is)) in
    leads-push after first (x ∷ xs) b k leads differ (sym last_is) lacks (omega arith) (omega arith)

pub IsLinked-push : (after before : List (Option ℕ)) (first last : Option ℕ) (room : ℕ) (xs : List ℕ) (k : ℕ) → IsLinked after before first last room xs → Lacks xs k → k < room → IsLinked (after_push after last k) (set before k last) (end_after first last (Some k)) (Some k) room (xs ++ k ∷ [])
IsLinked-push after before first last room xs k linked lacks within = record {
  after_room = length-relinked (set after k None) last (Some k) ∙ length-set after k None ∙ linked.after_room;
  before_room = length-set before k last ∙ linked.before_room;
  leads = push_leads after first last xs k room linked.after_room linked.leads linked.last_is linked.differ linked.below lacks within;
  leads_back =
      let e = linked.before_room in
      let P : Option ℕ → Type 0 = λ p. LeadsBack (set before k p) None (xs ++ k ∷ []) in
      subst P (sym linked.last_is) (back-push before None xs k linked.leads_back lacks (omega arith));
  last_is = sym (last_or-append None xs (k ∷ []));
  differ = differ-push xs k linked.differ lacks;
  below = below-push room xs k linked.below within;
}

-- the last stack is one of the list
pub last_below : (room : ℕ) (xs : List ℕ) (b : ℕ) → AllBelow room xs → last_or None xs ≡ Some b → b < room
last_below room [] b below e = cc
last_below room (x ∷ xs) b below e = below_has room (x ∷ xs) b below (last_has x xs b e)

first_below : (room : ℕ) (xs : List ℕ) (b : ℕ) → AllBelow room xs → first_of xs ≡ Some b → b < room
first_below room [] b below e = cc
first_below room (x ∷ xs) b below e = below_has room (x ∷ xs) b below (inl (cc))

below_left : (room : ℕ) (xs ys : List ℕ) → AllBelow room (xs ++ ys) → AllBelow room xs
below_left room [] ys below = tt
below_left room (x ∷ xs) ys below = (below.0, below_left room xs ys below.1)

below_right : (room : ℕ) (xs ys : List ℕ) → AllBelow room (xs ++ ys) → AllBelow room ys
below_right room [] ys below = below
below_right room (x ∷ xs) ys below = below_right room xs ys below.1

pub last_within : (after before : List (Option ℕ)) (first last : Option ℕ) (room : ℕ) (xs : List ℕ) → IsLinked after before first last room xs → ForSome last (λ b. b < room)
last_within after before first last room xs linked = λ b e. last_below room xs b linked.below (sym linked.last_is ∙ e)

-- ---- the neighbours of a stack
pub leads_first : (links : List (Option ℕ)) (start : Option ℕ) (xs : List ℕ) → Leads links start xs → start ≡ first_of xs
leads_first links start [] leads = leads
leads_first links start (x ∷ xs) leads = leads.0

pub stack_after-cut : (front back : List ℕ) (k : ℕ) → AllDiffer (front ++ k ∷ back) → stack_after (front ++ k ∷ back) k ≡ first_of back
stack_after-cut [] back k differ = ap (λ b. cond b (first_of back) (stack_after back k)) (eq-eqb k k refl)
stack_after-cut (x ∷ xs) back k differ =
    ap (λ b. cond b (first_of (xs ++ k ∷ back)) (stack_after (xs ++ k ∷ back) k)) (ne_eqb x k (apart (xs ++ k ∷ back) x k differ.0 (has_right xs (k ∷ back) k (inl refl))))
    ∙ stack_after-cut xs back k differ.1

pub next_is : (links : List (Option ℕ)) (start : Option ℕ) (xs : List ℕ) (k : ℕ) → Leads links start xs → AllDiffer xs → Has xs k → link_at links k ≡ stack_after xs k
next_is links start xs k leads differ has =
    let cut = cut_at xs k differ has in
    let P : List ℕ → Type 0 = λ ys. Leads links start ys in
    let Q : List ℕ → Type 0 = λ ys. AllDiffer ys in
    leads_first links (link_at links k) cut.1 (leads_after links start cut.0 cut.1 k (subst P cut.2.whole leads))
    ∙ sym (stack_after-cut cut.0 cut.1 k (subst Q cut.2.whole differ))
    ∙ ap (λ ys. stack_after ys k) (sym cut.2.whole)

-- ---- a stack taken out of the list
remove_leads : (after : List (Option ℕ)) (first p : Option ℕ) (front back : List ℕ) (k room : ℕ) → length after ≡ room → Leads after first (front ++ k ∷ back) → AllDiffer (front ++ k ∷ back) → AllBelow room (front ++ k ∷ back) → p ≡ last_or None front → Leads (relinked after p (link_at after k)) (end_after first p (link_at after k)) (front ++ back)
remove_leads after first None [] back k room size leads differ below p_is = leads.1
remove_leads after first (Some b) [] back k room size leads differ below p_is = cc
remove_leads after first None (x ∷ xs) back k room size leads differ below p_is =
    absurd (empty_from_last x xs (sym p_is))
remove_leads after first (Some b) (x ∷ xs) back k room size leads differ below p_is =
    let b_in : b < room = below_has room ((x ∷ xs) ++ k ∷ back) b below (has_left (x ∷ xs) (k ∷ back) b (last_has x xs b (sym p_is))) in
    leads-remove after first (x ∷ xs) back k b leads differ (sym p_is) (omega arith)

remove_back : (after before : List (Option ℕ)) (q : Option ℕ) (front back : List ℕ) (k room : ℕ) → length before ≡ room → LeadsBack before None (front ++ k ∷ back) → AllDiffer (front ++ k ∷ back) → AllBelow room (front ++ k ∷ back) → Leads after q back → LeadsBack (relinked before q (last_or None front)) None (front ++ back)
remove_back after before q front [] k room size leads differ below q_leads =
    let P : Option ℕ → Type 0 = λ o. LeadsBack (relinked before o (last_or None front)) None (front ++ []) in
    subst P (sym q_leads) (back-remove_last before None front k leads)
remove_back after before q front (y ∷ ys) k room size leads differ below q_leads =
    let P : Option ℕ → Type 0 = λ o. LeadsBack (relinked before o (last_or None front)) None (front ++ y ∷ ys) in
    let y_in : y < room = below_has room (front ++ k ∷ y ∷ ys) y below (has_right front (k ∷ y ∷ ys) y (inr (inl refl))) in
    subst P (sym q_leads.0) (back-remove before None front k y ys leads differ (omega arith))

remove_last : (after : List (Option ℕ)) (last q : Option ℕ) (front back : List ℕ) (k : ℕ) → last ≡ last_or None (front ++ k ∷ back) → Leads after q back → end_after last q (last_or None front) ≡ last_or None (front ++ back)
remove_last after last q front [] k last_is q_leads =
    ap (λ o. end_after last o (last_or None front)) q_leads ∙ sym (last_or-append None front [])
remove_last after last q front (y ∷ ys) k last_is q_leads =
    ap (λ o. end_after last o (last_or None front)) q_leads.0 ∙ last_is ∙ last_or-append None front (k ∷ y ∷ ys) ∙ sym (last_or-append None front (y ∷ ys))

remove_cut : (after before : List (Option ℕ)) (first last : Option ℕ) (room : ℕ) (front back : List ℕ) (k : ℕ) → IsLinked after before first last room (front ++ k ∷ back) → IsLinked (relinked after (link_at before k) (link_at after k)) (relinked before (link_at after k) (link_at before k)) (end_after first (link_at before k) (link_at after k)) (end_after last (link_at after k) (link_at before k)) room (front ++ back)
remove_cut after before first last room front back k linked =
    let p_is = before_is before None front back k linked.leads_back in
    let q_leads = leads_after after first front back k linked.leads in
    let P : Option ℕ → Type 0 = λ o. LeadsBack (relinked before (link_at after k) o) None (front ++ back) in
    record {
      after_room = length-relinked after (link_at before k) (link_at after k) ∙ linked.after_room;
      before_room = length-relinked before (link_at after k) (link_at before k) ∙ linked.before_room;
      leads = remove_leads after first (link_at before k) front back k room linked.after_room linked.leads linked.differ linked.below p_is;
      leads_back = subst P (sym p_is) (remove_back after before (link_at after k) front back k room linked.before_room linked.leads_back linked.differ linked.below q_leads);
      last_is = ap (λ o. end_after last (link_at after k) o) p_is ∙ remove_last after last (link_at after k) front back k linked.last_is q_leads;
      differ = differ_without front back k linked.differ;
      below = below_without room front back k linked.below;
    }

pub IsLinked-remove : (after before : List (Option ℕ)) (first last : Option ℕ) (room : ℕ) (xs : List ℕ) (k : ℕ) → IsLinked after before first last room xs → Has xs k → IsLinked (relinked after (link_at before k) (link_at after k)) (relinked before (link_at after k) (link_at before k)) (end_after first (link_at before k) (link_at after k)) (end_after last (link_at after k) (link_at before k)) room (without xs k)
IsLinked-remove after before first last room xs k linked has =
    let cut = cut_at xs k linked.differ has in
    let P : List ℕ → Type 0 = λ ys. IsLinked after before first last room ys in
    let Q : List ℕ → Type 0 = λ ys. IsLinked (relinked after (link_at before k) (link_at after k)) (relinked before (link_at after k) (link_at before k)) (end_after first (link_at before k) (link_at after k)) (end_after last (link_at after k) (link_at before k)) room ys in
    subst Q (sym cut.2.rest) (remove_cut after before first last room cut.0 cut.1 k (subst P cut.2.whole linked))

-- the neighbours are stacks of the list
pub before_within : (after before : List (Option ℕ)) (first last : Option ℕ) (room : ℕ) (xs : List ℕ) (k : ℕ) → IsLinked after before first last room xs → Has xs k → ForSome (link_at before k) (λ b. b < room)
before_within after before first last room xs k linked has =
    let cut = cut_at xs k linked.differ has in
    let P : List ℕ → Type 0 = λ ys. LeadsBack before None ys in
    let Q : List ℕ → Type 0 = λ ys. AllBelow room ys in
    λ b e. last_below room cut.0 b (below_left room cut.0 (k ∷ cut.1) (subst Q cut.2.whole linked.below))
    (sym (before_is before None cut.0 cut.1 k (subst P cut.2.whole linked.leads_back)) ∙ e)

pub after_within : (after before : List (Option ℕ)) (first last : Option ℕ) (room : ℕ) (xs : List ℕ) (k : ℕ) → IsLinked after before first last room xs → Has xs k → ForSome (link_at after k) (λ b. b < room)
after_within after before first last room xs k linked has =
    let cut = cut_at xs k linked.differ has in
    let P : List ℕ → Type 0 = λ ys. Leads after first ys in
    let Q : List ℕ → Type 0 = λ ys. AllBelow room ys in
    λ b e. first_below room cut.1 b (below_right room cut.0 (k ∷ cut.1) (subst Q cut.2.whole linked.below)).1
    (sym (leads_first after (link_at after k) cut.1 (leads_after after first cut.0 cut.1 k (subst P cut.2.whole linked.leads))) ∙ e)

-- the list is the one that the walk gives
pub walk_is : (after before : List (Option ℕ)) (first last : Option ℕ) (room : ℕ) (xs : List ℕ) → IsLinked after before first last room xs → walk (length after) after first ≡ xs
walk_is after before first last room xs linked =
    let size = linked.after_room in
    walk_leads (length after) after first xs linked.leads (omega (arith, length-le_room room xs linked.differ linked.below))

pub IsLinked-walk : (after before : List (Option ℕ)) (first last : Option ℕ) (room : ℕ) (xs : List ℕ) → IsLinked after before first last room xs → IsLinked after before first last (length after) (walk (length after) after first)
IsLinked-walk after before first last room xs linked =
    let P : ℕ → Type 0 = λ n. IsLinked after before first last n (walk (length after) after first) in
    let Q : List ℕ → Type 0 = λ ys. IsLinked after before first last room ys in
    subst P (sym linked.after_room) (subst Q (sym (walk_is after before first last room xs linked)) linked)

-- ---- what a caller sees
abbrev pub sequence : ℕ → List ℕ → Sequence
sequence room stacks = record { room = room; stacks = stacks }

pub seen_linked : (after before : List (Option ℕ)) (first last : Option ℕ) (seen : Sequence) → sequence (length after) (walk (length after) after first) ≡ seen → IsLinked after before first last (length after) (walk (length after) after first) → IsLinked after before first last seen.room seen.stacks
seen_linked after before first last seen e linked =
    let P : Sequence → Type 0 = λ s. IsLinked after before first last s.room s.stacks in subst P e linked

pub seen_is : (after before : List (Option ℕ)) (first last : Option ℕ) (room : ℕ) (xs : List ℕ) → IsLinked after before first last room xs → sequence (length after) (walk (length after) after first) ≡ sequence room xs
seen_is after before first last room xs linked =
    ap (λ n. sequence n (walk (length after) after first)) linked.after_room
    ∙ ap (λ ys. sequence room ys) (walk_is after before first last room xs linked)

pub pushed : (after before : List (Option ℕ)) (first last : Option ℕ) (room : ℕ) (xs : List ℕ) (k place : ℕ) (after' : List (Option ℕ)) (first' : Option ℕ) → IsLinked after before first last room xs → place ≡ k → Lacks xs k → k < room → after' ≡ relinked (set after place None) last (Some k) → first' ≡ end_after first last (Some k) → IsLinked after' (set before place last) first' (Some k) room (xs ++ k ∷ [])
pushed after before first last room xs k place after' first' linked place_is lacks within after_is first_is =
    let P : List (Option ℕ) → Type 0 = λ a. IsLinked a (set before place last) first' (Some k) room (xs ++ k ∷ []) in
    let Q : Option ℕ → Type 0 = λ f. IsLinked (relinked (set after place None) last (Some k)) (set before place last) f (Some k) room (xs ++ k ∷ []) in
    let R : ℕ → Type 0 = λ p. IsLinked (relinked (set after p None) last (Some k)) (set before p last) (end_after first last (Some k)) (Some k) room (xs ++ k ∷ []) in
    subst P (sym after_is) (subst Q (sym first_is) (subst R (sym place_is) (IsLinked-push after before first last room xs k linked lacks within)))

pub removed : (after before : List (Option ℕ)) (first last : Option ℕ) (room : ℕ) (xs : List ℕ) (k : ℕ) (p q : Option ℕ) (after' before' : List (Option ℕ)) (first' last' : Option ℕ) → IsLinked after before first last room xs → Has xs k → p ≡ link_at before k → q ≡ link_at after k → after' ≡ relinked after p q → first' ≡ end_after first p q → before' ≡ relinked before q p → last' ≡ end_after last q p → IsLinked after' before' first' last' room (without xs k)
removed after before first last room xs k p q after' before' first' last' linked has p_is q_is after_is first_is before_is last_is =
    let P : List (Option ℕ) → Type 0 = λ a. IsLinked a before' first' last' room (without xs k) in
    let Q : Option ℕ → Type 0 = λ f. IsLinked (relinked after p q) before' f last' room (without xs k) in
    let R : List (Option ℕ) → Type 0 = λ b. IsLinked (relinked after p q) b (end_after first p q) last' room (without xs k) in
    let S : Option ℕ → Type 0 = λ l. IsLinked (relinked after p q) (relinked before q p) (end_after first p q) l room (without xs k) in
    let T : Option ℕ → Type 0 = λ o. IsLinked (relinked after o q) (relinked before q o) (end_after first o q) (end_after last q o) room (without xs k) in
    let U : Option ℕ → Type 0 = λ o. IsLinked (relinked after (link_at before k) o) (relinked before o (link_at before k)) (end_after first (link_at before k) o) (end_after last o (link_at before k)) room (without xs k) in
    subst P (sym after_is) (subst Q (sym first_is) (subst R (sym before_is) (subst S (sym last_is) (subst T (sym p_is) (subst U (sym q_is) (IsLinked-remove after before first last room xs k linked has))))))

-- a link that was read
pub read_link : (links : List (Option ℕ)) (place k : ℕ) (link : Option ℕ) → place ≡ k → place < length links → link ≡ get_or links place link → link ≡ link_at links k
read_link links place k link place_is within read =
    get_or_read links place link within read None ∙ ap (link_at links) place_is

-- what was read at a stack of the list
pub read_before : (after before : List (Option ℕ)) (first last : Option ℕ) (room : ℕ) (xs : List ℕ) (k place : ℕ) (link : Option ℕ) → IsLinked after before first last room xs → Has xs k → place ≡ k → link ≡ get_or before place link → link ≡ link_at before k
read_before after before first last room xs k place link linked has place_is read =
    let h : k < room = below_has room xs k linked.below has in
    let size = linked.before_room in
    read_link before place k link place_is (omega arith) read

pub read_after : (after before : List (Option ℕ)) (first last : Option ℕ) (room : ℕ) (xs : List ℕ) (k place : ℕ) (link : Option ℕ) → IsLinked after before first last room xs → Has xs k → place ≡ k → link ≡ get_or after place link → link ≡ link_at after k
read_after after before first last room xs k place link linked has place_is read =
    let h : k < room = below_has room xs k linked.below has in
    let size = linked.after_room in
    read_link after place k link place_is (omega arith) read
