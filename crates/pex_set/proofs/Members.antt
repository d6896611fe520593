-- Members in the order in which they were added, and in that of their names and starts.
use Rattle.std.proofs.Common.{◌≡◌, ◌≢◌, ◌↔◌, ℕ, zero, suc, ◌<◌, ◌≤◌, Bool, true, false, not, cond, ◌&&◌, ◌⊎◌, ⊎_elim, inl, inr, List, [], ◌∷◌, get_or, take, Option, Some, None, sym, ap, ◌∙◌, refl, arith, subst, length-take, get_or-take}
use Rattle.std.specs.Prelude.{All, slice_get, nat_le, nat_lt}
use Rattle.std.specs.List.{filter}
use Rattle.std.specs.List.Sorted.{IsPermutation, IsSortedByKey, IsStableByKey, ties}
use Rattle.std.specs.Ordering.{is_lt}
use Rattle.std.proofs.lemmas.Bool.{both_ways, and_parts, and_from, not-true, not-false, leb-true, leb-false, le-leb, lt-leb, lt-ltb, le-ltb, cases_lt}
use Rattle.std.proofs.lemmas.List.Elements.{All-weaker, All-contains, All-from_get_or, All-take, filter_agree}
use Rattle.std.proofs.lemmas.List.Sorted.{All-permutation, IsPermutation-sym, ranks_by, sorted_far}
use Rattle.std.proofs.lemmas.Option.{none-some, slice_get_within, get_or_from_slice_get, same_Some}
use Rattle.pex_set.specs.declared.inherited.MemberPlace.{MemberPlace}
use Rattle.pex_set.specs.declared.inherited.OwnMember.{OwnMember}
use Rattle.pex_set.specs.declared.inherited.Stretch.{Stretch}
use Rattle.papy_base.specs.Ranks.{has}
use Rattle.pex_set.specs.Inherited.{Names, position_cmp, is_up_to, found_in, Reaches, IsNearest, AreOfTree, AreLaminar}
use Rattle.pex_set.specs.Sweep.{start_of, end_of, covers, starts_with, IsCover, AreCovered, AreSorted, AreInOrder}
use Rattle.pex_set.proofs.Positions.{position_total, is_up_to-same, names-between, lt-not_up}

-- a list sorted by its starts
pub AreSorted-from_key : (xs : List OwnMember) → IsSortedByKey start_of position_cmp xs → AreSorted xs
AreSorted-from_key xs up k d l =
    let P : OwnMember → Type 0 = λ o. is_up_to (start_of o) (start_of (get_or xs k d)) ≡ true in
    let lt : OwnMember → OwnMember → Bool = λ x y. is_lt (position_cmp (start_of x) (start_of y)) in
    All-from_get_or P (take k xs) d (λ i m.
    let less : i < k = omega (arith, length-take k xs) in
    let far = sorted_far lt (ranks_by position_total start_of) xs up i k d (omega arith) l in
    rw get_or-take (not-false _ (sym (lt-not_up (start_of (get_or xs k d)) (start_of (get_or xs i d))) ∙ far)))

up-same : (a b : Names) (x y : ℕ) → a ≡ b → is_up_to (a, x) (b, y) ≡ nat_le x y
up-same a b x y e = ap (λ n. is_up_to (a, x) (n, y)) (sym e) ∙ is_up_to-same a x y

inner_end : (a b : OwnMember) → AreOfTree a b → b.span.start < b.span.end → a.span.start ≤ b.span.start → b.span.start < a.span.end → b.span.end ≤ a.span.end
inner_end a b tree filled starts goes_on =
    ⊎_elim
    (λ same. let e : b.span.end ≡ a.span.end = ap (λ s. s.end) (sym same.1) in omega arith)
    (λ two. ⊎_elim (⊎_elim (λ (before : a.span.end ≤ b.span.start). omega arith) (λ (after : b.span.end ≤ a.span.start). omega arith)) (⊎_elim (λ within. absurd (two.1 (omega arith))) (λ within. within.1)) two.2)
    tree

nested : (a b : OwnMember) → AreOfTree a b → b.span.start < b.span.end → is_up_to (start_of a) (start_of b) ≡ true → is_up_to (end_of a) (start_of b) ≡ false → is_up_to (end_of b) (end_of a) ≡ true
nested a b tree filled starts goes_on =
    let same = names-between a.names b.names a.span.start a.span.end b.span.start starts goes_on in
    let low = leb-true a.span.start b.span.start (sym (up-same a.names b.names _ _ same) ∙ starts) in
    let high = leb-false a.span.end b.span.start (sym (up-same a.names b.names _ _ same) ∙ goes_on) in
    up-same b.names a.names _ _ (sym same) ∙ le-leb b.span.end a.span.end (inner_end a b tree filled low high)

not_at_start : (a : OwnMember) → a.span.start < a.span.end → is_up_to (end_of a) (start_of a) ≡ false
not_at_start a l = is_up_to-same a.names a.span.end a.span.start ∙ lt-leb a.span.end a.span.start l

pub AreLaminar-permutation : (xs ys : List OwnMember) → IsPermutation xs ys → AreLaminar xs → AreLaminar ys
AreLaminar-permutation xs ys p h =
    All-permutation (λ a. (a.span.start < a.span.end) × All (AreOfTree a) ys) xs ys p (All-weaker (λ a. (a.span.start < a.span.end) × All (AreOfTree a) xs) (λ a. (a.span.start < a.span.end) × All (AreOfTree a) ys) (λ a w. (w.0, All-permutation (AreOfTree a) xs ys p w.1)) xs h)

pub AreInOrder-from_sorted : (ys : List OwnMember) → AreLaminar ys → AreSorted ys → AreInOrder ys
AreInOrder-from_sorted ys h sorted k d l =
    let m = get_or ys k d in
    let filled : All (λ o. is_up_to (end_of o) (start_of o) ≡ false) ys =
    All-weaker (λ a. (a.span.start < a.span.end) × All (AreOfTree a) ys) (λ o. is_up_to (end_of o) (start_of o) ≡ false) (λ o w. not_at_start o w.0) ys h
    in
    let trees : All (λ o. AreOfTree o m) (take k ys) =
    All-take (λ o. AreOfTree o m) k ys (All-weaker (λ a. (a.span.start < a.span.end) × All (AreOfTree a) ys) (λ o. AreOfTree o m) (λ o w. w.1 k d l) ys h)
    in
    record {
      after = sorted k d l;
      filled = All-take (λ o. is_up_to (end_of o) (start_of o) ≡ false) k ys filled;
      goes_on = filled k d l;
      inside = λ i e n. nested (get_or (take k ys) i e) m (trees i e n) (h k d l).0 (sorted k d l i e n);
    }

lt-not_le : (x y : ℕ) → nat_lt x y ≡ not (nat_le y x)
lt-not_le x y = ⊎_elim (λ less. lt-ltb x y less ∙ ap not (sym (lt-leb y x less))) (λ ge. le-ltb x y ge ∙ ap not (sym (le-leb y x ge))) (cases_lt x y)

covers-has : (m : OwnMember) (names : Names) (rank : ℕ) → m.names ≡ names → covers m (names, rank) ≡ has m.span rank
covers-has m names rank e =
    ap (λ b. b && not (is_up_to (end_of m) (names, rank))) (up-same m.names names m.span.start rank e) ∙ ap (λ b. nat_le m.span.start rank && not b) (up-same m.names names m.span.end rank e) ∙ ap (λ b. nat_le m.span.start rank && b) (sym (lt-not_le rank m.span.end))

covers-from_reaches : (m : OwnMember) (names : Names) (rank : ℕ) → Reaches m names rank → covers m (names, rank) ≡ true
covers-from_reaches m names rank r = covers-has m names rank r.0 ∙ r.1

reaches-from_covers : (m : OwnMember) (names : Names) (rank : ℕ) → covers m (names, rank) ≡ true → Reaches m names rank
reaches-from_covers m names rank h =
    let parts = and_parts (is_up_to (start_of m) (names, rank)) (not (is_up_to (end_of m) (names, rank))) h in
    let same = names-between m.names names m.span.start m.span.end rank parts.0 (not-true _ parts.1) in
    (same, sym (covers-has m names rank same) ∙ h)

swapped : (p q : Bool) → (not (not p) && not (not q)) ≡ (q && p)
swapped true true = refl
swapped true false = refl
swapped false true = refl
swapped false false = refl

-- those that tie by their starts
ties-starts : (m o : OwnMember) → ties (λ x y. is_lt (position_cmp (start_of x) (start_of y))) m o ≡ starts_with m o
ties-starts m o =
    ap (λ b. not b && not (is_lt (position_cmp (start_of o) (start_of m)))) (lt-not_up (start_of m) (start_of o)) ∙ ap (λ b. not (not (is_up_to (start_of o) (start_of m))) && not b) (lt-not_up (start_of o) (start_of m)) ∙ swapped (is_up_to (start_of o) (start_of m)) (is_up_to (start_of m) (start_of o))

-- the place of the first that passes a test
record IsFirstAt {A : Type 0} (p : A → Bool) (xs : List A) (m : A) : Type 0 where
  index : ℕ
  stands : slice_get xs index ≡ Some m
  before : (j : ℕ) (o : A) → slice_get xs j ≡ Some o → p o ≡ true → index ≤ j

first_before : {A : Type 0} (p : A → Bool) (x : A) (xs : List A) (m : A) → p x ≡ false → (r : IsFirstAt p xs m) → (j : ℕ) (o : A) → slice_get (x ∷ xs) j ≡ Some o → p o ≡ true → suc r.index ≤ j
first_before p x xs m e r zero o s t = absurd (both_ways (p o) (subst (λ y. p y ≡ false) (same_Some x o s) e) t)
first_before p x xs m e r (suc j) o s t = let l = r.before j o s t in omega arith

first_at_by : {A : Type 0} (p : A → Bool) (x : A) (xs : List A) (m : A) (b : Bool) → p x ≡ b → slice_get (cond b (x ∷ filter p xs) (filter p xs)) 0 ≡ Some m → (slice_get (filter p xs) 0 ≡ Some m → IsFirstAt p xs m) → IsFirstAt p (x ∷ xs) m
first_at_by p x xs m true e h rec = record { index = 0; stands = h; before = λ j o s t. omega arith }
first_at_by p x xs m false e h rec =
    let r = rec h in
    record { index = suc r.index; stands = r.stands; before = first_before p x xs m e r }

first_at : {A : Type 0} (p : A → Bool) (xs : List A) (m : A) → slice_get (filter p xs) 0 ≡ Some m → IsFirstAt p xs m
first_at p [] m h = absurd (none-some m h)
first_at p (x ∷ xs) m h = first_at_by p x xs m (p x) refl h (first_at p xs m)

module _ (xs ys : List OwnMember) (moved : IsPermutation xs ys) (stable : IsStableByKey start_of position_cmp xs ys) (laminar : AreLaminar xs) (names : Names) (rank : ℕ) where
  tree_of : (a b : OwnMember) (i j : ℕ) → slice_get xs i ≡ Some a → slice_get xs j ≡ Some b → AreOfTree a b
  tree_of a b i j s t =
      let all = All-contains (λ a. (a.span.start < a.span.end) × All (AreOfTree a) xs) xs a laminar (i, slice_get_within xs i a s, get_or_from_slice_get xs i a a s) in
      All-contains (AreOfTree a) xs b all.1 (j, slice_get_within xs j b t, get_or_from_slice_get xs j b b t)

  first_as_added : (m : OwnMember) → slice_get (filter (starts_with m) ys) 0 ≡ Some m → slice_get (filter (starts_with m) xs) 0 ≡ Some m
  first_as_added m h =
      let lt : OwnMember → OwnMember → Bool = λ x y. is_lt (position_cmp (start_of x) (start_of y)) in
      ap (λ l. slice_get l 0) (filter_agree (starts_with m) (ties lt m) (λ o. sym (ties-starts m o)) xs ∙ sym (stable m) ∙ filter_agree (ties lt m) (starts_with m) (ties-starts m) ys) ∙ h

  -- of two that reach the rank and start together, the first is in the same object
  other_by : (m o : OwnMember) (k j : ℕ) → slice_get xs k ≡ Some m → slice_get xs j ≡ Some o → j ≢ k → (starts_with m o ≡ true → k ≤ j) → m.names ≡ o.names → is_up_to (start_of o) (start_of m) ≡ true → (o.span.start < m.span.start) ⊎ ((o.place.object ≡ m.place.object) × (k < j))
  other_by m o k j s t ne first same up =
      let low = leb-true o.span.start m.span.start (sym (up-same o.names m.names _ _ (sym same)) ∙ up) in
      ⊎_elim
      (λ less. inl less)
      (λ ge. ⊎_elim
      (λ one. let l = first (and_from _ _ (up-same m.names o.names _ _ same ∙ le-leb m.span.start o.span.start ge) up) in inr (one.0, omega arith))
      (λ two. absurd (two.1 (omega arith)))
      (tree_of o m j k t s))
      (cases_lt o.span.start m.span.start)

  pub IsNearest-from_cover : (r : Option MemberPlace) → IsCover ys (names, rank) r → IsNearest xs names rank r
  IsNearest-from_cover None c =
      All-weaker (λ m. covers m (names, rank) ≡ false) (λ m. Reaches m names rank → ⊥) (λ m e r. both_ways _ e (covers-from_reaches m names rank r)) xs (All-permutation (λ m. covers m (names, rank) ≡ false) ys xs (IsPermutation-sym xs ys moved) c)
  IsNearest-from_cover (Some place) c =
      let m = c.member in
      let P : OwnMember → Type 0 = λ o. covers o (names, rank) ≡ true → is_up_to (start_of o) (start_of m) ≡ true in
      let latest = All-permutation P ys xs (IsPermutation-sym xs ys moved) c.latest in
      let first = first_at (starts_with m) xs m (first_as_added m c.first) in
      let reached = reaches-from_covers m names rank c.covered in
      record {
        index = first.index;
        member = m;
        stands = first.stands;
        placed = c.placed;
        reaches = reached;
        others = λ j o s ne r. other_by m o first.index j first.stands s ne (first.before j o s) (reached.0 ∙ sym r.0) (All-contains P xs o latest (j, slice_get_within xs j o s, get_or_from_slice_get xs j o o s) (covers-from_reaches o names rank r));
      }

-- what covers the sorted members has the nearest of those that were added
pub nearest_from_sorted : (xs ys : List OwnMember) (found : List Stretch) → IsPermutation xs ys → IsStableByKey start_of position_cmp xs ys → AreSorted ys → (AreInOrder ys → AreCovered ys found) → AreLaminar xs → (names : Names) (rank : ℕ) → IsNearest xs names rank (found_in found names rank)
nearest_from_sorted xs ys found moved stable sorted covered laminar names rank =
    let in_order = AreInOrder-from_sorted ys (AreLaminar-permutation xs ys moved laminar) sorted in
    IsNearest-from_cover xs ys moved stable laminar names rank (found_in found names rank) (covered in_order (names, rank))

absent_by : (members : List OwnMember) (names : Names) (rank : ℕ) (r : Option MemberPlace) → IsNearest members names rank r → All (λ m. ¬ Reaches m names rank) members → r ≡ None
absent_by members names rank None n h = refl
absent_by members names rank (Some place) n h =
    absurd (All-contains (λ m. ¬ Reaches m names rank) members n.member h (n.index, slice_get_within members n.index n.member n.stands, get_or_from_slice_get members n.index n.member n.member n.stands) n.reaches)

-- nothing is found exactly where no member reaches the rank
pub absent_where_nearest : (members : List OwnMember) (names : Names) (rank : ℕ) (r : Option MemberPlace) → IsNearest members names rank r → (r ≡ None) ↔ All (λ m. ¬ Reaches m names rank) members
absent_where_nearest members names rank r n = (λ e. subst (IsNearest members names rank) e n, absent_by members names rank r n)
