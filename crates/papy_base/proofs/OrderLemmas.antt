-- A walk begins with the last object without parent, and where it ends it has visited all objects in order.
use Rattle.std.proofs.Common.{◌≡◌, ℕ, zero, suc, ◌+◌, ◌<◌, ◌≤◌, ◌⊎◌, List, [], ◌∷◌, ◌++◌, reverse, length, get_or, slice_get, slice_index_or, Option, Some, None, option_to_list, option_and_then, refl, sym, ap, subst, ◌∙◌, inl, ⊎_elim, append_assoc, append-nil, add-one, arith}
use Rattle.std.proofs.lemmas.Bool.{cases_eq, cases_lt}
use Rattle.std.proofs.lemmas.List.{reverse-append, length-append, length-reverse, nil_from_length}
use Rattle.std.proofs.lemmas.List.Elements.{All-from_get_or}
use Rattle.papy_base.specs.Orders.{number_of, parent_number, IsForest, IsLast, AreLinked, IsBelow, itself, below_parent, IsOrder}
use Rattle.papy_base.proofs.LineageLemmas.{depth, depth_above, parent_number_within}
use Rattle.papy_base.proofs.Lists.{In, in_at, place_of, pairs_differ, length_differ}
use Rattle.papy_base.proofs.WalkLemmas.{Follows, Follow, IsNext, IsWalk, IsWalk-turn}

-- ---- stacks
pub item_is : (xs : List (Option ℕ)) (place : ℕ) → option_and_then (λ item. item) (slice_get xs place) ≡ slice_index_or xs place None
item_is [] place = refl
item_is (x ∷ xs) zero = refl
item_is (x ∷ xs) (suc place) = item_is xs place

pub reverse_push : (xs : List ℕ) (o : Option ℕ) → reverse (xs ++ option_to_list o) ≡ option_to_list o ++ reverse xs
reverse_push xs None = ap reverse (append-nil xs)
reverse_push xs (Some x) = reverse-append xs (x ∷ [])

-- ---- the begin
IsWalk-from : (parents last before : List (Option ℕ)) (root : Option ℕ) → slice_index_or last (length parents) None ≡ root → IsLast parents (length parents) (length parents) root → IsWalk parents last before [] (option_to_list root)
IsWalk-from parents last before None e is = record {
  are_known = record {
    objects = λ x h. absurd h;
    differ = tt;
    follow = tt;
    next = λ x h. absurd h;
  };
  start = λ x f. absurd (let never : None ≡ Some x = sym e ∙ f in cc);
  child = λ parent x h. absurd h;
  sibling = λ other x h. absurd h;
}
IsWalk-from parents last before (Some root) e is = record {
  are_known = record {
    objects = λ x h. ⊎_elim (λ (same : x ≡ root). omega (arith, is.0)) (λ (never : ⊥). absurd never) h;
    differ = (λ h. h, tt);
    follow = (inl is.1, tt);
    next = λ x h.
        ⊎_elim
        (λ (same : x ≡ root). subst (IsNext parents []) (sym same) (inl is.1, λ other above within siblings. absurd (is.2 other above within (siblings ∙ is.1))))
        (λ (never : ⊥). absurd never)
        h;
  };
  start = λ x f. inl (let same : Some root ≡ Some x = sym e ∙ f in cc);
  child = λ parent x h. absurd h;
  sibling = λ other x h. absurd h;
}

pub IsWalk-start : (parents last before : List (Option ℕ)) → AreLinked parents (length parents) last before → IsWalk parents last before [] (option_to_list (slice_index_or last (length parents) None))
IsWalk-start parents last before linked =
    IsWalk-from parents last before (slice_index_or last (length parents) None) refl (linked.last_is (length parents) (omega arith))

-- with the stack of the objects to go on with
pub IsWalk-started : (parents last before : List (Option ℕ)) (order ahead : List ℕ) (root : Option ℕ) → AreLinked parents (length parents) last before → order ≡ [] → ahead ≡ option_to_list root → root ≡ option_and_then (λ item. item) (slice_get last (length parents)) → IsWalk parents last before order (order ++ reverse ahead)
IsWalk-started parents last before order ahead root linked none some e =
    let same : order ++ reverse ahead ≡ option_to_list (slice_index_or last (length parents) None) = ap (λ xs. xs ++ reverse ahead) none ∙ ap reverse some ∙ reverse_push [] root ∙ append-nil (option_to_list root) ∙ ap option_to_list (e ∙ item_is last (length parents)) in
    subst (λ known. IsWalk parents last before order known) (sym same) (subst (λ xs. IsWalk parents last before xs (option_to_list (slice_index_or last (length parents) None))) (sym none) (IsWalk-start parents last before linked))

pub IsWalk-turned : (parents last before : List (Option ℕ)) (order order' ahead rest more ahead' : List ℕ) (object : ℕ) (sibling child : Option ℕ) → AreLinked parents (length parents) last before → IsWalk parents last before order (order ++ reverse ahead) → ahead ≡ rest ++ object ∷ [] → order' ≡ order ++ object ∷ [] → sibling ≡ option_and_then (λ item. item) (slice_get before object) → more ≡ rest ++ option_to_list sibling → child ≡ option_and_then (λ item. item) (slice_get last object) → ahead' ≡ more ++ option_to_list child → IsWalk parents last before order' (order' ++ reverse ahead')
IsWalk-turned parents last before order order' ahead rest more ahead' object sibling child linked walk taken grown of_sibling pushed of_child pushed_too =
    let old : order ++ reverse ahead ≡ order ++ object ∷ reverse rest = ap (λ xs. order ++ reverse xs) taken ∙ ap (λ xs. order ++ xs) (reverse_push rest (Some object)) in
    let stack : reverse ahead' ≡ option_to_list (slice_index_or last object None) ++ (option_to_list (slice_index_or before object None) ++ reverse rest) =
    ap reverse pushed_too ∙ reverse_push more child ∙ ap (λ xs. option_to_list child ++ reverse xs) pushed ∙ ap (λ xs. option_to_list child ++ xs) (reverse_push rest sibling)
    ∙ ap (λ o. option_to_list o ++ (option_to_list sibling ++ reverse rest)) (of_child ∙ item_is last object)
    ∙ ap (λ o. option_to_list (slice_index_or last object None) ++ (option_to_list o ++ reverse rest)) (of_sibling ∙ item_is before object) in
    let new : order' ++ reverse ahead' ≡ order ++ object ∷ (option_to_list (slice_index_or last object None) ++ (option_to_list (slice_index_or before object None) ++ reverse rest)) =
    ap (λ xs. xs ++ reverse ahead') grown ∙ append_assoc order (object ∷ []) (reverse ahead') ∙ ap (λ xs. order ++ object ∷ xs) stack in
    subst (λ known. IsWalk parents last before order' known) (sym new)
    (subst (λ xs. IsWalk parents last before xs (order ++ object ∷ (option_to_list (slice_index_or last object None) ++ (option_to_list (slice_index_or before object None) ++ reverse rest)))) (sym grown)
    (IsWalk-turn parents last before order object (reverse rest) linked (subst (λ known. IsWalk parents last before order known) old walk)))

-- ---- all objects were visited
module _ (parents last before : List (Option ℕ)) (order : List ℕ) (linked : AreLinked parents (length parents) last before) (walk : IsWalk parents last before order order) where
  linked_on : (left behind object : ℕ) (sibling : Option ℕ) → behind ≤ suc left → In behind order → object < behind → parent_number parents object ≡ parent_number parents behind → slice_index_or before behind None ≡ sibling → IsLast parents (parent_number parents behind) behind sibling → ((other : ℕ) → other ≤ left → In other order → object ≤ other → parent_number parents object ≡ parent_number parents other → In object order) → In object order
  linked_on left behind object None small h below same e is further = absurd (is object below same)
  linked_on left behind object (Some sibling) small h below same e is further =
      ⊎_elim
      (λ (past : sibling < object). absurd (is.2 object past below same))
      (λ (upto : object ≤ sibling). further sibling (omega (arith, is.0)) (walk.sibling behind sibling h e) upto (same ∙ sym is.1))
      (cases_lt sibling object)

  -- all that are linked behind a visited object
  linked_in : (left behind object : ℕ) → behind ≤ left → In behind order → object ≤ behind → parent_number parents object ≡ parent_number parents behind → In object order
  linked_in zero behind object small h below same =
      let e : object ≡ behind = omega arith in
      subst (λ n. In n order) (sym e) h
  linked_in (suc left) behind object small h below same =
      ⊎_elim
      (λ (e : object ≡ behind). subst (λ n. In n order) (sym e) h)
      (λ (differs : object ≡ behind → ⊥).
      linked_on left behind object (slice_index_or before behind None) small h (omega (arith, differs)) same refl (linked.before_is behind (walk.are_known.objects behind h))
      (λ other fewer g upto alike. linked_in left other object fewer g upto alike))
      (cases_eq object behind)

  children_in : (parent object : ℕ) (child : Option ℕ) → object < length parents → parent_number parents object ≡ parent → IsLast parents parent (length parents) child → ((x : ℕ) → child ≡ Some x → In x order) → In object order
  children_in parent object None within same is first = absurd (is object within same)
  children_in parent object (Some child) within same is first =
      ⊎_elim
      (λ (past : child < object). absurd (is.2 object past within same))
      (λ (upto : object ≤ child). linked_in child child object (omega arith) (first child refl) upto (same ∙ sym is.1))
      (cases_lt child object)

  visited_next : (object : ℕ) → object < length parents → (parent_number parents object < length parents → In (parent_number parents object) order) → In object order
  visited_next object within parent_in =
      let parent_within = parent_number_within parents object in
      children_in (parent_number parents object) object (slice_index_or last (parent_number parents object) None) within refl (linked.last_is (parent_number parents object) parent_within)
      (λ x e.
      ⊎_elim
      (λ (some : parent_number parents object < length parents). walk.child (parent_number parents object) x (parent_in some) e)
      (λ (none : length parents ≤ parent_number parents object).
      let root : parent_number parents object ≡ length parents = omega arith in
      walk.start x (ap (λ n. slice_index_or last n None) (sym root) ∙ e))
      (cases_lt (parent_number parents object) (length parents)))

  all_visited : IsForest parents → (left object : ℕ) → object < length parents → depth parents object ≤ left → In object order
  all_visited forest zero object within small =
      visited_next object within (λ some. let less = depth_above parents forest object within some in absurd (omega arith))
  all_visited forest (suc left) object within small =
      visited_next object within (λ some.
      let less = depth_above parents forest object within some in
      all_visited forest left (parent_number parents object) some (omega arith))

-- ---- by place
root_parent : (xs : List (Option ℕ)) → option_and_then (λ item. item) (slice_get xs (length xs)) ≡ None
root_parent [] = refl
root_parent (x ∷ xs) = root_parent xs

above_root : (parents : List (Option ℕ)) (one above : ℕ) → IsBelow parents one above → parent_number parents one ≡ length parents → one ≡ length parents → above ≡ length parents
above_root parents one above itself none e = e
above_root parents one above (below_parent some h) none e = absurd (omega arith)

begins_at : (parents : List (Option ℕ)) (order : List ℕ) → Follow parents (length parents) order → 0 < length order → parent_number parents (slice_index_or order 0 0) ≡ length parents
begins_at parents [] follow some = absurd (omega arith)
begins_at parents (x ∷ xs) follow some =
    ⊎_elim
    (λ (none : parent_number parents x ≡ length parents). none)
    (λ (below : IsBelow parents (length parents) (parent_number parents x)).
    above_root parents (length parents) (parent_number parents x) below (ap (number_of (length parents)) (root_parent parents)) refl)
    follow.0

follows_at : (parents : List (Option ℕ)) (first : ℕ) (order : List ℕ) → Follow parents first order → (rank : ℕ) → suc rank < length order → Follows parents (get_or order rank 0) (get_or order (suc rank) 0)
follows_at parents first [] follow rank within = absurd (omega arith)
follows_at parents first (x ∷ []) follow rank within = absurd (omega arith)
follows_at parents first (x ∷ y ∷ xs) follow zero within = follow.1.0
follows_at parents first (x ∷ y ∷ xs) follow (suc rank) within = follows_at parents x (y ∷ xs) follow.1 rank (omega arith)

IsOrder-whole : (parents last before : List (Option ℕ)) (order : List ℕ) → AreLinked parents (length parents) last before → IsWalk parents last before order order → IsForest parents → IsOrder parents order
IsOrder-whole parents last before order linked walk forest =
    let known = walk.are_known in
    record {
      few = length_differ order (length parents) known.differ known.objects;
      objects = All-from_get_or (λ x. x < length parents) order 0 (λ i within. known.objects (get_or order i 0) (in_at order i 0 within));
      all = λ x within. place_of x order (all_visited parents last before order linked walk forest (depth parents x) x within (omega arith));
      distinct = pairs_differ order known.differ;
      begins = begins_at parents order known.follow;
      follows = λ rank within. rw add-one (follows_at parents (length parents) order known.follow rank (omega arith));
    }

-- a walk ends where no object is left to go on with, or after as many turns as there are objects
pub IsOrder-end : (parents last before : List (Option ℕ)) (order ahead : List ℕ) → AreLinked parents (length parents) last before → IsWalk parents last before order (order ++ reverse ahead) → (length ahead ≡ 0) ⊎ (length order ≡ length parents) → IsForest parents → IsOrder parents order
IsOrder-end parents last before order ahead linked walk ends forest =
    let known = walk.are_known in
    let few : length order + length ahead ≤ length parents = omega (arith, length_differ (order ++ reverse ahead) (length parents) known.differ known.objects, length-append order (reverse ahead), length-reverse ahead) in
    let none : length ahead ≡ 0 = ⊎_elim (λ (e : length ahead ≡ 0). e) (λ (e : length order ≡ length parents). omega arith) ends in
    let all : order ++ reverse ahead ≡ order = ap (λ xs. order ++ reverse xs) (nil_from_length ahead none) ∙ append-nil order in
    IsOrder-whole parents last before order linked (subst (IsWalk parents last before order) all walk) forest
