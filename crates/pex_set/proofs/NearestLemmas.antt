-- What is found by rank is the nearest member in the object's lineage.
use Rattle.std.proofs.Common.{◌≡◌, ℕ, zero, suc, ◌<◌, ◌≤◌, ◌⊎◌, Bool, true, false, cond, ◌==◌, ◌&&◌, IsTrue, List, [], ◌∷◌, length, get_or, slice_get, find, Option, Some, None, refl, sym, ap, subst, ◌∙◌, inl, inr, ⊎_elim, arith}
use Rattle.std.specs.Option.{option_map, option_or}
use Rattle.std.proofs.lemmas.Bool.{true≢false, and_parts, and_from, eqb-true, eq-eqb, cases_eq}
use Rattle.std.proofs.lemmas.Option.{slice_get_within, get_or_from_slice_get, slice_get-get_or}
use Rattle.papy_base.specs.declared.descent.Span.{Span}
use Rattle.pex_set.specs.declared.inherited.MemberPlace.{MemberPlace}
use Rattle.pex_set.specs.declared.inherited.OwnMember.{OwnMember}
use Rattle.pex_set.specs.declared.inherited.Stretch.{Stretch}
use Rattle.pex_set.specs.Inherited.{Names, Reaches, IsInnermost, IsNearest, AreOfTree, AreLaminar, found_in}
use Rattle.papy_base.specs.Lineage.{parent_of, upward, lineage, stands_below}
use Rattle.pex_set.specs.Nearest.{is_own, own_member, nearest, AreRanked}
use Rattle.papy_base.specs.Orders.{parent_number, IsForest, IsBelow, itself, below_parent}
use Rattle.papy_base.specs.Ranks.{span_at, has, IsDescentOf, AreApart, IsWithin}
use Rattle.papy_base.proofs.DescentLemmas.{has_start, spans_nest, ranks_differ}
use Rattle.papy_base.proofs.LineageLemmas.{below_below, not_above_itself, parent_cases, stands_from_below, below_from_stands}

-- ---- the first of a list
not_yet : {X : Type 0} (p : X → Bool) (x : X) (xs : List X) (k : ℕ) → p x ≡ false → ((j : ℕ) (y : X) → slice_get xs j ≡ Some y → p y ≡ true → k ≤ j) → (j : ℕ) (y : X) → slice_get (x ∷ xs) j ≡ Some y → p y ≡ true → suc k ≤ j
not_yet p x xs k fails least zero y e passes =
    let same : x ≡ y = cc in
    absurd (true≢false (sym passes ∙ ap p (sym same) ∙ fails))
not_yet p x xs k fails least (suc j) y e passes = let later = least j y e passes in omega arith

-- the place of the first that passes
abbrev IsFirst : {X : Type 0} → (X → Bool) → List X → X → Type 0
IsFirst {X} p xs x = (k : ℕ) × (slice_get xs k ≡ Some x) × (p x ≡ true) × ((j : ℕ) (y : X) → slice_get xs j ≡ Some y → p y ≡ true → k ≤ j)

first_place : {X : Type 0} (p : X → Bool) (y : X) (xs : List X) (x : X) → (find p xs ≡ Some x → IsFirst p xs x) → (b : Bool) → p y ≡ b → cond b (Some y) (find p xs) ≡ Some x → IsFirst p (y ∷ xs) x
first_place p y xs x further true t e =
    let same : y ≡ x = cc in
    (0, e, ap p (sym same) ∙ t, λ j z g passes. omega arith)
first_place p y xs x further false f e =
    let w = further e in
    (suc w.0, w.1, w.2, not_yet p y xs w.0 f w.3)

find_place : {X : Type 0} (p : X → Bool) (xs : List X) (x : X) → find p xs ≡ Some x → IsFirst p xs x
find_place p [] x e = absurd (cc)
find_place p (y ∷ xs) x e = first_place p y xs x (λ f. find_place p xs x f) (p y) refl e

none_passes : {X : Type 0} (p : X → Bool) (y : X) (xs : List X) → (find p xs ≡ None → (k : ℕ) (x : X) → slice_get xs k ≡ Some x → p x ≡ true → ⊥) → (b : Bool) → p y ≡ b → cond b (Some y) (find p xs) ≡ None → (k : ℕ) (x : X) → slice_get (y ∷ xs) k ≡ Some x → p x ≡ true → ⊥
none_passes p y xs further true t e k x g passes = cc
none_passes p y xs further false f e zero x g passes = let same : y ≡ x = cc in true≢false (sym passes ∙ ap p (sym same) ∙ f)
none_passes p y xs further false f e (suc k) x g passes = further e k x g passes

find_none : {X : Type 0} (p : X → Bool) (xs : List X) → find p xs ≡ None → (k : ℕ) (x : X) → slice_get xs k ≡ Some x → p x ≡ true → ⊥
find_none p [] none k x e passes = cc
find_none p (y ∷ xs) none k x e passes = none_passes p y xs (λ f. find_none p xs f) (p y) refl none k x e passes

-- ---- the members of an object
own_parts : (object : ℕ) (names : Names) (member : OwnMember) → is_own object names member ≡ true → (member.place.object ≡ object) × (member.names ≡ names)
own_parts object names member own =
    let parts = and_parts (member.place.object == object) (member.names.0 == names.0 && member.names.1 == names.1) own in
    let pair = and_parts (member.names.0 == names.0) (member.names.1 == names.1) parts.1 in
    let state = eqb-true member.names.0 names.0 pair.0 in
    let name = eqb-true member.names.1 names.1 pair.1 in
    let one : member.names ≡ (names.0, member.names.1) = ap (λ (n : ℕ). let pair : Names = (n, member.names.1) in pair) state in
    let two : (let pair : Names = (names.0, member.names.1) in pair) ≡ names = ap (λ (n : ℕ). let pair : Names = (names.0, n) in pair) name in
    (eqb-true member.place.object object parts.0, one ∙ two)

is_own_from : (object : ℕ) (names : Names) (member : OwnMember) → member.place.object ≡ object → member.names ≡ names → is_own object names member ≡ true
is_own_from object names member of_object named =
    and_from (member.place.object == object) (member.names.0 == names.0 && member.names.1 == names.1) (eq-eqb member.place.object object of_object)
    (and_from (member.names.0 == names.0) (member.names.1 == names.1) (eq-eqb member.names.0 names.0 (ap (λ (n : Names). n.0) named)) (eq-eqb member.names.1 names.1 (ap (λ (n : Names). n.1) named)))

own_absent : (members : List OwnMember) (object : ℕ) (names : Names) → ((k : ℕ) (member : OwnMember) → slice_get members k ≡ Some member → member.place.object ≡ object → member.names ≡ names → ⊥) → own_member members object names ≡ None
own_absent members object names none = by (find (is_own object names) members) refl
  where
    by : (o : Option OwnMember) → find (is_own object names) members ≡ o → own_member members object names ≡ None
    by None e = ap (option_map (λ (member : OwnMember). member.place)) e
    by (Some member) e =
        let w = find_place (is_own object names) members member e in
        let parts = own_parts object names member w.2 in
        absurd (none w.0 member w.1 parts.0 parts.1)

own_first : (members : List OwnMember) (names : Names) (index : ℕ) (member : OwnMember) → slice_get members index ≡ Some member → member.names ≡ names → ((k : ℕ) (other : OwnMember) → slice_get members k ≡ Some other → other.place.object ≡ member.place.object → other.names ≡ names → k < index → ⊥) → own_member members member.place.object names ≡ Some member.place
own_first members names index member stands named first = by (find (is_own member.place.object names) members) refl
  where
    own : is_own member.place.object names member ≡ true
    own = is_own_from member.place.object names member refl named

    by : (o : Option OwnMember) → find (is_own member.place.object names) members ≡ o → own_member members member.place.object names ≡ Some member.place
    by None e = absurd (find_none (is_own member.place.object names) members e index member stands own)
    by (Some other) e =
        let w = find_place (is_own member.place.object names) members other e in
        let parts = own_parts member.place.object names other w.2 in
        let least = w.3 index member stands own in
        ⊎_elim
        (λ (same : w.0 ≡ index).
        let one : Some other ≡ Some member = sym w.1 ∙ ap (slice_get members) same ∙ stands in
        let alike : other ≡ member = cc in
        ap (option_map (λ (m : OwnMember). m.place)) e ∙ ap (λ (m : OwnMember). Some m.place) alike)
        (λ (differ : w.0 ≡ index → ⊥). absurd (first w.0 other w.1 parts.0 parts.1 (omega (arith, differ))))
        (cases_eq w.0 index)

-- ---- members with the ranks of their objects
module _ (parents : List (Option ℕ)) (spans : List Span) (members : List OwnMember) (forest : IsForest parents) (descent : IsDescentOf parents spans) (ranked : AreRanked spans (length parents) members) where
  ranked_at : (k : ℕ) (member : OwnMember) → slice_get members k ≡ Some member → (member.place.object < length parents) × (member.span ≡ span_at spans member.place.object)
  ranked_at k member e =
      let P : OwnMember → Type 0 = λ m. (m.place.object < length parents) × (m.span ≡ span_at spans m.place.object) in
      subst P (get_or_from_slice_get members k member member e) (ranked k member (slice_get_within members k member e))

  -- the spans of these members are those of objects of trees
  of_tree : (a b : OwnMember) → a.place.object < length parents → b.place.object < length parents → a.span ≡ span_at spans a.place.object → b.span ≡ span_at spans b.place.object → AreOfTree a b
  of_tree a b within_a within_b span_a span_b =
      ⊎_elim
      (λ (same : a.place.object ≡ b.place.object). inl (same, span_a ∙ ap (span_at spans) same ∙ sym span_b))
      (λ (differ : a.place.object ≡ b.place.object → ⊥).
      inr (
        differ,
        λ (starts : a.span.start ≡ b.span.start). differ (ranks_differ parents spans descent forest a.place.object b.place.object within_a within_b (ap (λ (s : Span). s.start) (sym span_a) ∙ starts ∙ ap (λ (s : Span). s.start) span_b)),
        subst (λ (s : Span). AreApart s b.span ⊎ (IsWithin s b.span ⊎ IsWithin b.span s)) (sym span_a)
            (subst (λ (s : Span). AreApart (span_at spans a.place.object) s ⊎ (IsWithin (span_at spans a.place.object) s ⊎ IsWithin s (span_at spans a.place.object))) (sym span_b)
            (⊎_elim
            (λ (apart : AreApart (span_at spans a.place.object) (span_at spans b.place.object)). inl apart)
            (λ (nest : ((stands_below parents a.place.object b.place.object ≡ true) × IsWithin (span_at spans a.place.object) (span_at spans b.place.object)) ⊎ ((stands_below parents b.place.object a.place.object ≡ true) × IsWithin (span_at spans b.place.object) (span_at spans a.place.object))).
            inr (⊎_elim
            (λ (inner : (stands_below parents a.place.object b.place.object ≡ true) × IsWithin (span_at spans a.place.object) (span_at spans b.place.object)). inl inner.1)
            (λ (outer : (stands_below parents b.place.object a.place.object ≡ true) × IsWithin (span_at spans b.place.object) (span_at spans a.place.object)). inr outer.1)
            nest))
            (spans_nest parents spans descent a.place.object b.place.object within_a within_b))),
      ))
      (cases_eq a.place.object b.place.object)

  pub AreLaminar-ranked : AreLaminar members
  AreLaminar-ranked i d h =
      let a = get_or members i d in
      let of_a = ranked_at i a (slice_get-get_or members i d h) in (
        subst (λ (s : Span). s.start < s.end) (sym of_a.1) (descent.within a.place.object of_a.0).0,
        λ j e g.
            let b = get_or members j e in
            let of_b = ranked_at j b (slice_get-get_or members j e g) in
            of_tree a b of_a.0 of_b.0 of_a.1 of_b.1,
      )

  module _ (object : ℕ) (within : object < length parents) (names : Names) where
    reaches_from : (k : ℕ) (member : OwnMember) → slice_get members k ≡ Some member → member.names ≡ names → IsBelow parents object member.place.object → Reaches member names (span_at spans object).start
    reaches_from k member stands named below =
        (named, subst (λ (s : Span). IsTrue (has s (span_at spans object).start)) (sym (ranked_at k member stands).1) (has_start parents spans descent object member.place.object within (stands_from_below parents forest below within)))

    below_from : (k : ℕ) (member : OwnMember) → slice_get members k ≡ Some member → Reaches member names (span_at spans object).start → IsBelow parents object member.place.object
    below_from k member stands reaches =
        let of_member = ranked_at k member stands in
        below_from_stands parents forest object member.place.object
        (descent.only object member.place.object within of_member.0 (subst (λ (s : Span). has s (span_at spans object).start ≡ true) of_member.1 reaches.1))

    -- ---- nothing reaches the object
    none_from_none : (left : ℕ) → nearest members (upward left parents None) names ≡ None
    unfolding upward
    none_from_none zero = refl
    none_from_none (suc left) = refl

    nearest_none : ((k : ℕ) (member : OwnMember) → slice_get members k ≡ Some member → Reaches member names (span_at spans object).start → ⊥) → (left one : ℕ) → IsBelow parents object one → nearest members (upward left parents (Some one)) names ≡ None
    unfolding upward
    nearest_none none zero one below = refl
    nearest_none none (suc left) one below =
        let own = own_absent members one names (λ k member stands of_object named. none k member stands (reaches_from k member stands named (subst (IsBelow parents object) (sym of_object) below))) in
        ap (λ o. option_or o (nearest members (upward left parents (parent_of parents one)) names)) own
        ∙ ⊎_elim
        (λ (root : (parent_of parents one ≡ None) × (parent_number parents one ≡ length parents)). ap (λ o. nearest members (upward left parents o) names) root.0 ∙ none_from_none left)
        (λ (some : (parent_of parents one ≡ Some (parent_number parents one)) × (parent_number parents one < length parents)).
        ap (λ o. nearest members (upward left parents o) names) some.0 ∙ nearest_none none left (parent_number parents one) (below_below below (below_parent some.1 itself)))
        (parent_cases parents forest one)

    -- ---- the first that has a member
    nearest_up : (place : MemberPlace) {one above : ℕ} → IsBelow parents one above → one < length parents → IsBelow parents object one → own_member members above names ≡ Some place → ((other : ℕ) → other < length parents → IsBelow parents object other → IsBelow parents other above → (other ≡ above → ⊥) → own_member members other names ≡ None) → nearest members (lineage parents (Some one)) names ≡ Some place
    nearest_up place (itself {object = one}) one_within below own absent =
        ap (λ xs. nearest members xs names) (forest.rooted one one_within) ∙ ap (λ o. option_or o (nearest members (lineage parents (parent_of parents one)) names)) own
    nearest_up place (below_parent {object = one} {above} some g) one_within below own absent =
        let differ : one ≡ above → ⊥ = λ e. not_above_itself parents forest one one_within some (subst (IsBelow parents (parent_number parents one)) (sym e) g) in
        ap (λ xs. nearest members xs names) (forest.rooted one one_within)
        ∙ ap (λ o. option_or o (nearest members (lineage parents (parent_of parents one)) names)) (absent one one_within below (below_parent some g) differ)
        ∙ ⊎_elim
        (λ (root : (parent_of parents one ≡ None) × (parent_number parents one ≡ length parents)). absurd (omega arith))
        (λ (is : (parent_of parents one ≡ Some (parent_number parents one)) × (parent_number parents one < length parents)).
        ap (λ o. nearest members (lineage parents o) names) is.0 ∙ nearest_up place g some (below_below below (below_parent some itself)) own absent)
        (parent_cases parents forest one)

    nearest_some : (place : MemberPlace) → IsInnermost members names (span_at spans object).start place → nearest members (lineage parents (Some object)) names ≡ Some place
    nearest_some place is = nearest_up place below within itself (own ∙ ap (λ (p : MemberPlace). Some p) is.placed) absent
      where
        of_member : (is.member.place.object < length parents) × (is.member.span ≡ span_at spans is.member.place.object)
        of_member = ranked_at is.index is.member is.stands

        below : IsBelow parents object is.member.place.object
        below = below_from is.index is.member is.stands is.reaches

        start_of : (k : ℕ) (other : OwnMember) → slice_get members k ≡ Some other → (one : ℕ) → other.place.object ≡ one → other.span.start ≡ (span_at spans one).start
        start_of k other stands one of_object = ap (λ (s : Span). s.start) (ranked_at k other stands).1 ∙ ap (λ n. (span_at spans n).start) of_object

        own : own_member members is.member.place.object names ≡ Some is.member.place
        own = own_first members names is.index is.member is.stands is.reaches.0
            (λ k other stands of_object named less.
            let starts = start_of k other stands is.member.place.object of_object in
            let own_start = start_of is.index is.member is.stands is.member.place.object refl in
            ⊎_elim
            (λ (lower : other.span.start < is.member.span.start). absurd (omega arith))
            (λ (later : (other.place.object ≡ is.member.place.object) × (is.index < k)). absurd (omega arith))
            (is.others k other stands (λ (e : k ≡ is.index). absurd (omega arith)) (reaches_from k other stands named (subst (IsBelow parents object) (sym of_object) below))))

        absent : (one : ℕ) → one < length parents → IsBelow parents object one → IsBelow parents one is.member.place.object → (one ≡ is.member.place.object → ⊥) → own_member members one names ≡ None
        absent one one_within below_one above differ = own_absent members one names
            (λ k other stands of_object named.
            let starts = start_of k other stands one of_object in
            let own_start = start_of is.index is.member is.stands is.member.place.object refl in
            let nest = descent.nested one is.member.place.object one_within (stands_from_below parents forest above one_within) in
            ⊎_elim
            (λ (lower : other.span.start < is.member.span.start). absurd (omega arith))
            (λ (later : (other.place.object ≡ is.member.place.object) × (is.index < k)). differ (sym of_object ∙ later.0))
            (is.others k other stands
            (λ (e : k ≡ is.index).
            let one_member : Some other ≡ Some is.member = sym stands ∙ ap (slice_get members) e ∙ is.stands in
            let alike : other ≡ is.member = cc in
            differ (sym of_object ∙ ap (λ (m : OwnMember). m.place.object) alike))
            (reaches_from k other stands named (subst (IsBelow parents object) (sym of_object) below_one))))

    -- what is nearest by ranks is nearest in the lineage
    pub nearest_found : (found : Option MemberPlace) → IsNearest members names (span_at spans object).start found → found ≡ nearest members (lineage parents (Some object)) names
    nearest_found None none =
        sym (nearest_none
        (λ k member stands reaches.
        none k member (slice_get_within members k member stands) (subst (λ (m : OwnMember). Reaches m names (span_at spans object).start) (sym (get_or_from_slice_get members k member member stands)) reaches))
        (length parents) object itself)
    nearest_found (Some place) is = sym (nearest_some place is)

    -- so is what a table of these members finds
    pub nearest_in : (stretches : List Stretch) → (AreLaminar members → (names : Names) (rank : ℕ) → IsNearest members names rank (found_in stretches names rank)) → found_in stretches names (span_at spans object).start ≡ nearest members (lineage parents (Some object)) names
    nearest_in stretches exact = nearest_found (found_in stretches names (span_at spans object).start) (exact AreLaminar-ranked names (span_at spans object).start)
