-- One member more is added to those that were swept.
use Rattle.std.proofs.Common.{◌≡◌, Bool, true, false, not, cond, ◌&&◌, List, [], ◌∷◌, ◌++◌, get_or, Option, Some, None, sym, ap, ◌∙◌, refl, subst, append_assoc}
use Rattle.std.specs.Prelude.{All, IfSome, slice_get, reverse}
use Rattle.std.specs.List.{Contains, filter, last_or}
use Rattle.std.proofs.lemmas.Bool.{both_ways, and_parts, and_from, and_left, not-true, true≢false}
use Rattle.std.proofs.lemmas.Option.{none-some}
use Rattle.std.proofs.lemmas.List.{reverse-append, reverse-reverse, append-nil}
use Rattle.std.proofs.lemmas.List.Elements.{All-nil, All-cons, All-head, All-tail, All-append, All-weaker, All-push, All-same, All-contains, All-contains_itself, Contains-append_left, Contains-push, filter-append}
use Rattle.std.proofs.lemmas.List.Sorted.{IsPermutation-reverse, All-permutation}
use Rattle.pex_set.specs.declared.inherited.MemberPlace.{MemberPlace}
use Rattle.pex_set.specs.declared.inherited.OwnMember.{OwnMember}
use Rattle.pex_set.specs.declared.inherited.Stretch.{Stretch}
use Rattle.pex_set.specs.Inherited.{Position, is_up_to, found_from, Ascends}
use Rattle.pex_set.specs.Sweep.{start_of, end_of, covers, starts_with, member_of, IsLatestCover, IsCover, IsBehind, Fits, IsOrdered, earlier_end, is_reached, IsOpened, IsLatest, IsEnd, IsSwept, AreMoved, IsLastBehind}
use Rattle.pex_set.proofs.Positions.{falsely, is_up_to-trans, is_up_to-total, is_up_to-refl, not_up-before, not_up-behind}
use Rattle.pex_set.proofs.Stretches.{found_from-append, found_from-later, found_from-earlier, first_of_reverse, last_or-push}

-- a stretch that begins the member at `start`, and one that goes back to what was there before at `end`
module _ (xs ys : List Stretch) (start end : Position) (place : MemberPlace) where
  pub inserted : List Stretch
  inserted = xs ++ record { start = start; member = Some place } ∷ (record { start = end; member = member_of (last_or None xs) } ∷ ys)

module _ (xs ys : List Stretch) (start end : Position) (place : MemberPlace) (goes_on : is_up_to end start ≡ false) (before : All (λ x. is_up_to x.start start ≡ true) xs) (behind : All (λ y. is_up_to end y.start ≡ true) ys) where
  all_later : (q : Position) → is_up_to end q ≡ false → All (λ y. is_up_to y.start q ≡ false) ys
  all_later q e = All-weaker (λ y. is_up_to end y.start ≡ true) (λ y. is_up_to y.start q ≡ false) (λ y h. not_up-before end y.start q h e) ys behind

  all_earlier : (q : Position) → is_up_to start q ≡ true → All (λ x. is_up_to x.start q ≡ true) xs
  all_earlier q s = All-weaker (λ x. is_up_to x.start start ≡ true) (λ x. is_up_to x.start q ≡ true) (λ x h. is_up_to-trans x.start start q h s) xs before

  found_by : (q : Position) (s e : Bool) → is_up_to start q ≡ s → is_up_to end q ≡ e → found_from ys q (cond e (member_of (last_or None xs)) (cond s (Some place) (found_from xs q None))) ≡ cond (s && not e) (Some place) (found_from ys q (found_from xs q None))
  found_by q true true s e = ap (found_from ys q) (sym (found_from-earlier xs q None (all_earlier q s)))
  found_by q true false s e = found_from-later ys q (Some place) (all_later q e)
  found_by q false true s e = absurd (both_ways _ goes_on (is_up_to-trans end q start e (is_up_to-total start q s)))
  found_by q false false s e = refl

  -- the member is found where it covers the position, and elsewhere what was found before
  pub found_from-inserted : (q : Position) → found_from (inserted xs ys start end place) q None ≡ cond (is_up_to start q && not (is_up_to end q)) (Some place) (found_from (xs ++ ys) q None)
  unfolding inserted
  found_from-inserted q =
      found_from-append xs _ q None ∙ found_by q _ _ refl refl ∙ ap (cond (is_up_to start q && not (is_up_to end q)) (Some place)) (sym (found_from-append xs ys q None))

Ascends-append : (xs ys : List Stretch) → Ascends xs → Ascends ys → All (λ x. All (λ y. is_up_to x.start y.start ≡ true) ys) xs → Ascends (xs ++ ys)
Ascends-append [] ys h k c = k
Ascends-append (x ∷ xs) ys h k c =
    let P : Stretch → Type 0 = λ x. All (λ y. is_up_to x.start y.start ≡ true) ys in
    (All-append (λ y. is_up_to x.start y.start ≡ true) xs ys h.0 (All-head P x xs c), Ascends-append xs ys h.1 k (All-tail P x xs c))

All-front : {A : Type 0} (P : A → Type 0) (xs ys : List A) → All P (xs ++ ys) → All P xs
All-front P xs ys h = All-weaker (Contains xs) P (λ x c. All-contains P (xs ++ ys) x h (Contains-append_left xs ys x c)) xs (All-contains_itself xs)

All-last : {A : Type 0} (P : A → Type 0) (xs : List A) (x : A) → All P (xs ++ x ∷ []) → P x
All-last P xs x h = All-contains P (xs ++ x ∷ []) x h (Contains-push xs x)

pub Ascends-front : (xs ys : List Stretch) → Ascends (xs ++ ys) → Ascends xs
Ascends-front [] ys h = tt
Ascends-front (x ∷ xs) ys h = (All-front (λ y. is_up_to x.start y.start ≡ true) xs ys h.0, Ascends-front xs ys h.1)

pub Ascends-rest : (xs ys : List Stretch) → Ascends (xs ++ ys) → Ascends ys
Ascends-rest [] ys h = h
Ascends-rest (x ∷ xs) ys h = Ascends-rest xs ys h.1

Ascends-inserted : (xs ys : List Stretch) (start end : Position) (place : MemberPlace) → is_up_to start end ≡ true → All (λ x. is_up_to x.start start ≡ true) xs → All (λ y. is_up_to end y.start ≡ true) ys → Ascends (xs ++ ys) → Ascends (inserted xs ys start end place)
unfolding inserted
Ascends-inserted xs ys start end place up before behind h =
    let P : Stretch → Type 0 = λ y. is_up_to start y.start ≡ true in
    let first : Stretch = record { start = start; member = Some place } in
    let last : Stretch = record { start = end; member = member_of (last_or None xs) } in
    let later : All P (last ∷ ys) =
    All-cons P last ys up (All-weaker (λ y. is_up_to end y.start ≡ true) P (λ y e. is_up_to-trans start end y.start up e) ys behind)
    in
    let all : All P (first ∷ (last ∷ ys)) = All-cons P first (last ∷ ys) (is_up_to-refl start) later in
    let across : All (λ x. All (λ y. is_up_to x.start y.start ≡ true) (first ∷ (last ∷ ys))) xs =
    All-weaker (λ x. is_up_to x.start start ≡ true) (λ x. All (λ y. is_up_to x.start y.start ≡ true) (first ∷ (last ∷ ys))) (λ x e. All-weaker P (λ y. is_up_to x.start y.start ≡ true) (λ y k. is_up_to-trans x.start start y.start e k) (first ∷ (last ∷ ys)) all) xs before
    in
    Ascends-append xs (first ∷ (last ∷ ys)) (Ascends-front xs ys h) (later, (behind, Ascends-rest xs ys h)) across

filter_none : {A : Type 0} (p : A → Bool) (xs : List A) → All (λ x. p x ≡ false) xs → filter p xs ≡ []
filter_none p [] h = refl
filter_none p (x ∷ xs) h =
    rw (All-head (λ x. p x ≡ false) x xs h) (filter_none p xs (All-tail (λ x. p x ≡ false) x xs h))

first_stays : {A : Type 0} (xs ys : List A) (m : A) → slice_get xs 0 ≡ Some m → slice_get (xs ++ ys) 0 ≡ Some m
first_stays [] ys m h = absurd (none-some m h)
first_stays (x ∷ xs) ys m h = h

first-append : {A : Type 0} (p : A → Bool) (xs ys : List A) (m : A) → slice_get (filter p xs) 0 ≡ Some m → slice_get (filter p (xs ++ ys)) 0 ≡ Some m
first-append p xs ys m h = rw (filter-append p xs ys) (first_stays (filter p xs) (filter p ys) m h)

starts_with-itself : (m : OwnMember) → starts_with m m ≡ true
starts_with-itself m = and_from _ _ (is_up_to-refl (start_of m)) (is_up_to-refl (start_of m))

-- a member that starts behind all others
module _ (done : List OwnMember) (h : OwnMember) (after : All (λ d. is_up_to (start_of d) (start_of h) ≡ true) done) (strictly : All (λ d. is_up_to (start_of h) (start_of d) ≡ false) done) where
  cover_here : (q : Position) → covers h q ≡ true → IsLatestCover (done ++ h ∷ []) q h.place
  cover_here q e =
      let none = filter_none (starts_with h) done (All-weaker (λ d. is_up_to (start_of h) (start_of d) ≡ false) (λ d. starts_with h d ≡ false) (λ d k. and_left _ _ k) done strictly) in
      let P : OwnMember → Type 0 = λ d. covers d q ≡ true → is_up_to (start_of d) (start_of h) ≡ true in
      record {
        member = h;
        placed = refl;
        covered = e;
        first = rw (filter-append (starts_with h) done (h ∷ []), none, starts_with-itself h) refl;
        latest = All-push P done h (All-weaker (λ d. is_up_to (start_of d) (start_of h) ≡ true) P (λ d k c. k) done after) (λ c. is_up_to-refl (start_of h));
      }

-- a member that does not cover a position, or of which another that starts with it does
cover_other : (done : List OwnMember) (h : OwnMember) (q : Position) (r : Option MemberPlace) → (covers h q ≡ true → (t : OwnMember) × Contains done t × (covers t q ≡ true) × (is_up_to (start_of h) (start_of t) ≡ true)) → IsCover done q r → IsCover (done ++ h ∷ []) q r
cover_other done h q None other c =
    All-push (λ d. covers d q ≡ false) done h c (falsely _ (λ e. let t = other e in both_ways _ (All-contains (λ d. covers d q ≡ false) done t.0 c t.1) t.2))
cover_other done h q (Some place) other c =
    let P : OwnMember → Type 0 = λ d. covers d q ≡ true → is_up_to (start_of d) (start_of c.member) ≡ true in
    record {
      member = c.member;
      placed = c.placed;
      covered = c.covered;
      first = first-append (starts_with c.member) done (h ∷ []) c.member c.first;
      latest = All-push P done h c.latest (λ e. let t = other e in is_up_to-trans (start_of h) (start_of t.0) (start_of c.member) t.3 (All-contains P done t.0 c.latest t.1 t.2));
    }

cover_push : (done : List OwnMember) (h : OwnMember) → IsBehind done h → All (λ d. is_up_to (start_of h) (start_of d) ≡ false) done → (q : Position) (r : Option MemberPlace) (b : Bool) → covers h q ≡ b → IsCover done q r → IsCover (done ++ h ∷ []) q (cond b (Some h.place) r)
cover_push done h after strictly q r true e c = cover_here done h after strictly q e
cover_push done h after strictly q r false e c = cover_other done h q r (λ f. absurd (both_ways _ e f)) c

pub AreMoved-none : (p : Position) (stretches ends : List Stretch) → AreMoved p stretches ends stretches ends
AreMoved-none p stretches ends =
    record { moved = []; behind = sym (append-nil stretches); from_ends = sym (append-nil ends); come = All-nil (λ x. is_up_to x.start p ≡ true) }

pub AreMoved-more : (p : Position) (s e s' e' e'' : List Stretch) (end : Stretch) → AreMoved p s e s' e' → e' ≡ e'' ++ end ∷ [] → is_up_to end.start p ≡ true → AreMoved p s e (s' ++ end ∷ []) e''
AreMoved-more p s e s' e' e'' end m same up =
    record {
      moved = m.moved ++ end ∷ [];
      behind = ap (λ l. l ++ end ∷ []) m.behind ∙ append_assoc s m.moved (end ∷ []);
      from_ends = m.from_ends ∙ ap (λ l. l ++ reverse m.moved) same ∙ append_assoc e'' (end ∷ []) (reverse m.moved) ∙ ap (λ l. e'' ++ l) (sym (reverse-append m.moved (end ∷ [])));
      come = All-push (λ x. is_up_to x.start p ≡ true) m.moved end m.come up;
    }

pub IsOrdered-none : IsOrdered [] [] []
IsOrdered-none = record { ascends = tt; before = λ p all. All-nil (λ x. is_up_to x.start p ≡ true) }

pub IsSwept-none : IsSwept [] [] []
IsSwept-none = record { answers = λ q. All-nil (λ d. covers d q ≡ false); latest = refl; all_ends = All-nil (IsEnd []) }

AreMoved-same : (p : Position) (s e s' e' : List Stretch) → AreMoved p s e s' e' → s ++ reverse e ≡ s' ++ reverse e'
AreMoved-same p s e s' e' m =
    ap (λ l. s ++ l) (ap reverse m.from_ends ∙ reverse-append e' (reverse m.moved) ∙ ap (λ l. l ++ reverse e') (reverse-reverse m.moved)) ∙ sym (append_assoc s m.moved (reverse e')) ∙ ap (λ l. l ++ reverse e') (sym m.behind)

all_behind : (p : Position) (ys : List Stretch) → Ascends ys → IfSome (slice_get ys 0) (λ y. is_up_to y.start p ≡ false) → All (λ y. is_up_to y.start p ≡ false) ys
all_behind p [] h k = All-nil (λ y. is_up_to y.start p ≡ false)
all_behind p (y ∷ ys) h k =
    All-cons (λ y. is_up_to y.start p ≡ false) y ys k (All-weaker (λ z. is_up_to y.start z.start ≡ true) (λ z. is_up_to z.start p ≡ false) (λ z e. not_up-before y.start z.start p e k) ys h.0)

new_whole : (xs es : List Stretch) (first last : Stretch) → (xs ++ first ∷ []) ++ reverse (es ++ last ∷ []) ≡ xs ++ first ∷ (last ∷ reverse es)
new_whole xs es first last = ap (λ l. (xs ++ first ∷ []) ++ l) (reverse-append es (last ∷ [])) ∙ append_assoc xs (first ∷ []) (last ∷ reverse es)

-- the end of a member that is opened lies behind its start, and no later than the ends around it
earlier_up_by : (start end : Position) (outer : Stretch) (b : Bool) → is_up_to end outer.start ≡ b → is_up_to end start ≡ false → is_up_to outer.start start ≡ false → is_up_to start (cond b end outer.start) ≡ true
earlier_up_by start end outer true e goes_on k = is_up_to-total end start goes_on
earlier_up_by start end outer false e goes_on k = is_up_to-total outer.start start k

earlier_up : (start end : Position) (o : Option Stretch) → is_up_to end start ≡ false → IfSome o (λ e. is_up_to e.start start ≡ false) → is_up_to start (earlier_end end o) ≡ true
earlier_up start end None goes_on k = is_up_to-total end start goes_on
earlier_up start end (Some outer) goes_on k = earlier_up_by start end outer _ refl goes_on k

earlier_first_by : (end : Position) (outer : Stretch) (b : Bool) → is_up_to end outer.start ≡ b → is_up_to (cond b end outer.start) outer.start ≡ true
earlier_first_by end outer true e = e
earlier_first_by end outer false e = is_up_to-refl outer.start

earlier_all : (end : Position) (ys : List Stretch) → Ascends ys → All (λ y. is_up_to (earlier_end end (slice_get ys 0)) y.start ≡ true) ys
earlier_all end [] h = All-nil (λ y. is_up_to end y.start ≡ true)
earlier_all end (y ∷ ys) h =
    let e = earlier_end end (Some y) in
    let up : is_up_to e y.start ≡ true = earlier_first_by end y _ refl in
    All-cons (λ z. is_up_to e z.start ≡ true) y ys up (All-weaker (λ z. is_up_to y.start z.start ≡ true) (λ z. is_up_to e z.start ≡ true) (λ z k. is_up_to-trans e y.start z.start up k) ys h.0)

earlier_same : (end : Position) (ys : List Stretch) → All (λ y. is_up_to end y.start ≡ true) ys → earlier_end end (slice_get ys 0) ≡ end
earlier_same end [] h = refl
earlier_same end (y ∷ ys) h = rw (All-head (λ y. is_up_to end y.start ≡ true) y ys h) refl

-- a state, after ends up to the start of a member were moved
module _ (done : List OwnMember) (h : OwnMember) (s e s' e' : List Stretch) (o : IsOrdered done s e) (m : AreMoved (start_of h) s e s' e') (rest : IsLastBehind (start_of h) e') where
  moved_ascends : Ascends (s' ++ reverse e')
  moved_ascends = subst Ascends (AreMoved-same (start_of h) s e s' e' m) o.ascends

  ends_ascend : Ascends (reverse e')
  ends_ascend = Ascends-rest s' (reverse e') moved_ascends

  moved_before : (p : Position) → IsBehind done h → is_up_to (start_of h) p ≡ true → All (λ d. is_up_to (start_of d) p ≡ true) done → All (λ x. is_up_to x.start p ≡ true) s'
  moved_before p after up all =
      let P : Stretch → Type 0 = λ x. is_up_to x.start p ≡ true in
      All-same P s' (s ++ m.moved) m.behind (All-append P s m.moved (o.before p all) (All-weaker (λ x. is_up_to x.start (start_of h) ≡ true) P (λ x k. is_up_to-trans x.start (start_of h) p k up) m.moved m.come))

  before_start : IsBehind done h → All (λ x. is_up_to x.start (start_of h) ≡ true) s'
  before_start after = moved_before (start_of h) after (is_up_to-refl (start_of h)) after

  ends_behind : All (λ y. is_up_to y.start (start_of h) ≡ false) (reverse e')
  ends_behind =
      all_behind (start_of h) (reverse e') ends_ascend (subst (λ r. IfSome r (λ y. is_up_to y.start (start_of h) ≡ false)) (first_of_reverse e') rest)

  module _ (s'' e'' : List Stretch) (opened : IsOpened (start_of h) (end_of h) h.place s' e' s'' e'') where
    opened_end : Position
    opened_end = earlier_end (end_of h) (last_or None e')

    opened_whole : s'' ++ reverse e'' ≡ inserted s' (reverse e') (start_of h) opened_end h.place
    unfolding inserted opened_end
    opened_whole =
        let first : Stretch = record { start = start_of h; member = Some h.place } in
        let last : Stretch = record { start = opened_end; member = member_of (last_or None s') } in
        ap (λ l. l ++ reverse e'') opened.begun ∙ ap (λ l. (s' ++ first ∷ []) ++ reverse l) opened.ended ∙ new_whole s' e' first last

    pub IsOrdered-opened : IsBehind done h → is_up_to (end_of h) (start_of h) ≡ false → IsOrdered (done ++ h ∷ []) s'' e''
    unfolding opened_end
    IsOrdered-opened after goes_on = record {
      ascends = subst Ascends (sym opened_whole) (Ascends-inserted s' (reverse e') (start_of h) opened_end h.place (earlier_up (start_of h) (end_of h) (last_or None e') goes_on rest) (before_start after) (subst (λ r. All (λ y. is_up_to (earlier_end (end_of h) r) y.start ≡ true) (reverse e')) (sym (first_of_reverse e')) (earlier_all (end_of h) (reverse e') ends_ascend)) moved_ascends);
      before = λ p all. All-same (λ x. is_up_to x.start p ≡ true) s'' _ opened.begun (All-push (λ x. is_up_to x.start p ≡ true) s' _ (moved_before p after (All-last (λ d. is_up_to (start_of d) p ≡ true) done h all) (All-front (λ d. is_up_to (start_of d) p ≡ true) done (h ∷ []) all)) (All-last (λ d. is_up_to (start_of d) p ≡ true) done h all));
    }

    module _ (w : IsSwept done s e) (fits : Fits done h) (unreached : is_reached (start_of h) (last_or None s) ≡ false) where
      strictly_by : (r : Option Stretch) → IsLatest done r → is_reached (start_of h) r ≡ false → All (λ d. is_up_to (start_of h) (start_of d) ≡ false) done
      strictly_by None l n = All-same (λ d. is_up_to (start_of h) (start_of d) ≡ false) done [] l (All-nil (λ d. is_up_to (start_of h) (start_of d) ≡ false))
      strictly_by (Some latest) l n =
          All-weaker (λ d. is_up_to (start_of d) latest.start ≡ true) (λ d. is_up_to (start_of h) (start_of d) ≡ false) (λ d k. not_up-behind (start_of h) (start_of d) latest.start k n) done l.members

      strictly : All (λ d. is_up_to (start_of h) (start_of d) ≡ false) done
      strictly = strictly_by (last_or None s) w.latest unreached

      ends_left : All (IsEnd done) e'
      ends_left = All-front (IsEnd done) e' (reverse m.moved) (All-same (IsEnd done) (e' ++ reverse m.moved) e (sym m.from_ends) w.all_ends)

      end_inside : (y : Stretch) → IsEnd done y → is_up_to y.start (start_of h) ≡ false → is_up_to (end_of h) y.start ≡ true
      end_inside y d k =
          let P : OwnMember → Type 0 = λ o. is_up_to (end_of o) (start_of h) ≡ false → is_up_to (end_of h) (end_of o) ≡ true in
          subst (λ p. is_up_to (end_of h) p ≡ true) (sym d.2) (All-contains P done d.0 fits.inside d.1 (subst (λ p. is_up_to p (start_of h) ≡ false) d.2 k))

      ends_outside : All (λ y. is_up_to (end_of h) y.start ≡ true) (reverse e')
      ends_outside =
          let all = All-permutation (IsEnd done) e' (reverse e') (IsPermutation-reverse e') ends_left in
          λ k d l. end_inside (get_or (reverse e') k d) (all k d l) (ends_behind k d l)

      opened_end_same : opened_end ≡ end_of h
      unfolding opened_end
      opened_end_same = ap (earlier_end (end_of h)) (first_of_reverse e') ∙ earlier_same (end_of h) (reverse e') ends_outside

      opened_inserted : s'' ++ reverse e'' ≡ inserted s' (reverse e') (start_of h) (end_of h) h.place
      opened_inserted = opened_whole ∙ ap (λ p. inserted s' (reverse e') (start_of h) p h.place) opened_end_same

      opened_found : (q : Position) → found_from (s'' ++ reverse e'') q None ≡ cond (covers h q) (Some h.place) (found_from (s ++ reverse e) q None)
      opened_found q =
          ap (λ l. found_from l q None) opened_inserted ∙ found_from-inserted s' (reverse e') (start_of h) (end_of h) h.place fits.goes_on (before_start fits.after) ends_outside q ∙ ap (λ l. cond (covers h q) (Some h.place) (found_from l q None)) (sym (AreMoved-same (start_of h) s e s' e' m))

      latest_opened : IsLatest (done ++ h ∷ []) (last_or None s'')
      latest_opened =
          let first : Stretch = record { start = start_of h; member = Some h.place } in
          let last : last_or None s'' ≡ Some first = ap (last_or None) opened.begun ∙ last_or-push None s' first in
          subst (IsLatest (done ++ h ∷ [])) (sym last) (record {
            member = h;
            added = Contains-push done h;
            start = refl;
            members = All-push (λ d. is_up_to (start_of d) (start_of h) ≡ true) done h fits.after (is_up_to-refl (start_of h));
          })

      more_ends : (es : List Stretch) → All (IsEnd done) es → All (IsEnd (done ++ h ∷ [])) es
      more_ends es all = All-weaker (IsEnd done) (IsEnd (done ++ h ∷ [])) (λ y d. (d.0, Contains-append_left done (h ∷ []) d.0 d.1, d.2)) es all

      pub IsSwept-opened : IsSwept (done ++ h ∷ []) s'' e''
      unfolding opened_end
      IsSwept-opened =
          let last : Stretch = record { start = opened_end; member = member_of (last_or None s') } in
          record {
            answers = λ q. subst (IsCover (done ++ h ∷ []) q) (sym (opened_found q)) (cover_push done h fits.after strictly q (found_from (s ++ reverse e) q None) (covers h q) refl (w.answers q));
            latest = latest_opened;
            all_ends = All-same (IsEnd (done ++ h ∷ [])) e'' (e' ++ last ∷ []) opened.ended (All-push (IsEnd (done ++ h ∷ [])) e' last (more_ends e' ends_left) (h, Contains-push done h, opened_end_same));
          }

-- a member that starts with an earlier one, which counts in its place
module _ (done : List OwnMember) (h : OwnMember) (s e : List Stretch) (w : IsSwept done s e) (fits : Fits done h) where
  covered_too : (t : OwnMember) (q : Position) → Contains done t → is_up_to (start_of h) (start_of t) ≡ true → covers h q ≡ true → covers t q ≡ true
  covered_too t q c up k =
      let parts = and_parts (is_up_to (start_of h) q) (not (is_up_to (end_of h) q)) k in
      let after = All-contains (λ d. is_up_to (start_of d) (start_of h) ≡ true) done t fits.after c in
      let filled = All-contains (λ d. is_up_to (end_of d) (start_of d) ≡ false) done t fits.filled c in
      let inside = All-contains (λ d. is_up_to (end_of d) (start_of h) ≡ false → is_up_to (end_of h) (end_of d) ≡ true) done t fits.inside c (not_up-behind (end_of t) (start_of h) (start_of t) up filled) in
      and_from _ _ (is_up_to-trans (start_of t) (start_of h) q after parts.0) (ap not (not_up-before (end_of h) (end_of t) q inside (not-true _ parts.1)))

  kept_by : (r : Option Stretch) → IsLatest done r → is_reached (start_of h) r ≡ true → IsLatest (done ++ h ∷ []) r × ((t : OwnMember) × Contains done t × (is_up_to (start_of h) (start_of t) ≡ true))
  kept_by None l k = absurd (true≢false (sym k))
  kept_by (Some latest) l k = (
    record {
      member = l.member;
      added = Contains-append_left done (h ∷ []) l.member l.added;
      start = l.start;
      members = All-push (λ d. is_up_to (start_of d) latest.start ≡ true) done h l.members k;
    },
    (l.member, l.added, subst (λ p. is_up_to (start_of h) p ≡ true) l.start k),
  )

  pub IsSwept-kept : is_reached (start_of h) (last_or None s) ≡ true → IsSwept (done ++ h ∷ []) s e
  IsSwept-kept reached =
      let kept = kept_by (last_or None s) w.latest reached in
      let t = kept.1 in
      record {
        answers = λ q. cover_other done h q (found_from (s ++ reverse e) q None) (λ k. (t.0, t.1, covered_too t.0 q t.1 t.2 k, t.2)) (w.answers q);
        latest = kept.0;
        all_ends = All-weaker (IsEnd done) (IsEnd (done ++ h ∷ [])) (λ y d. (d.0, Contains-append_left done (h ∷ []) d.0 d.1, d.2)) e w.all_ends;
      }
