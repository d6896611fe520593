-- A walk over the objects: those that were visited, and behind them those to go on with.
use Rattle.std.proofs.Common.{◌≡◌, ℕ, ◌<◌, ◌≤◌, ◌⊎◌, List, [], ◌∷◌, ◌++◌, length, slice_index_or, Option, Some, None, option_to_list, refl, sym, ap, subst, ◌∙◌, inl, inr, ⊎_elim, arith}
use Rattle.std.proofs.lemmas.Bool.{cases_lt, cases_order}
use Rattle.papy_base.specs.Orders.{parent_number, IsLast, AreLinked, IsBelow, itself, below_parent}
use Rattle.papy_base.proofs.LineageLemmas.{parent_number_within}
use Rattle.papy_base.proofs.Lists.{In, Differ, in_left, in_right, in_either, differ_left, in_more, in_new, in_cases, differ_more}

-- whether the object may stand right behind the other one
abbrev pub Follows : List (Option ℕ) → ℕ → ℕ → Type 0
Follows parents one object = (parent_number parents object ≡ length parents) ⊎ IsBelow parents one (parent_number parents object)

-- each object follows the one before it
abbrev pub Follow : List (Option ℕ) → ℕ → List ℕ → Type 0
Follow parents one [] = Unit {0}
Follow parents one (object ∷ objects) = Follows parents one object × Follow parents object objects

-- the object's parent and those with the same parent that are linked before it were visited
abbrev pub IsNext : List (Option ℕ) → List ℕ → ℕ → Type 0
IsNext parents order object =
    ((parent_number parents object ≡ length parents) ⊎ In (parent_number parents object) order) × ((other : ℕ) → object < other → other < length parents → parent_number parents other ≡ parent_number parents object → In other order)

-- the visited objects, and all that are known
pub record AreKnown (parents : List (Option ℕ)) (order known : List ℕ) : Type 0 where
  pub objects : (object : ℕ) → In object known → object < length parents
  pub differ : Differ known
  pub follow : Follow parents (length parents) known
  pub next : (object : ℕ) → In object known → IsNext parents order object

-- what is linked behind a visited object is known
pub record IsWalk (parents last before : List (Option ℕ)) (order known : List ℕ) : Type 0 where
  pub are_known : AreKnown parents order known
  pub start : (object : ℕ) → slice_index_or last (length parents) None ≡ Some object → In object known
  pub child : (parent object : ℕ) → In parent order → slice_index_or last parent None ≡ Some object → In object known
  pub sibling : (other object : ℕ) → In other order → slice_index_or before other None ≡ Some object → In object known

-- ---- one more known object
follow_more : (parents : List (Option ℕ)) (first : ℕ) (xs : List ℕ) (one object : ℕ) (ys : List ℕ) → Follow parents first (xs ++ one ∷ ys) → Follows parents one object → ((y : ℕ) → In y ys → Follows parents one y → Follows parents object y) → Follow parents first (xs ++ one ∷ object ∷ ys)
follow_more parents first [] one object [] f new on = (f.0, (new, tt))
follow_more parents first [] one object (y ∷ ys) f new on = (f.0, (new, (on y (inl refl) f.1.0, f.1.1)))
follow_more parents first (x ∷ xs) one object ys f new on = (f.0, follow_more parents x xs one object ys f.1 new on)

AreKnown-more : (parents : List (Option ℕ)) (order xs : List ℕ) (one object : ℕ) (ys : List ℕ) → AreKnown parents order (xs ++ one ∷ ys) → object < length parents → (In object (xs ++ one ∷ ys) → ⊥) → IsNext parents order object → Follows parents one object → ((y : ℕ) → In y ys → Follows parents one y → Follows parents object y) → AreKnown parents order (xs ++ one ∷ object ∷ ys)
AreKnown-more parents order xs one object ys known within new next follows on = record {
  objects = λ x h.
      ⊎_elim
      (λ (e : x ≡ object). let same : x ≡ object = e in omega arith)
      (λ (g : In x (xs ++ one ∷ ys)). known.objects x g)
      (in_cases x xs one object ys h);
  differ = differ_more xs one object ys known.differ new;
  follow = follow_more parents (length parents) xs one object ys known.follow follows on;
  next = λ x h.
      ⊎_elim
      (λ (e : x ≡ object). subst (IsNext parents order) (sym e) next)
      (λ (g : In x (xs ++ one ∷ ys)). known.next x g)
      (in_cases x xs one object ys h);
}

-- ---- the object is visited
abbrev visited : List ℕ → ℕ → List ℕ
visited order object = order ++ object ∷ []

in_visited : (x : ℕ) (order : List ℕ) (object : ℕ) → In x order → In x (visited order object)
in_visited x order object h = in_left x order (object ∷ []) h

is_visited : (order : List ℕ) (object : ℕ) → In object (visited order object)
is_visited order object = in_right object order (object ∷ []) (inl refl)

next_visited : (parents : List (Option ℕ)) (order : List ℕ) (object x : ℕ) → IsNext parents order x → IsNext parents (visited order object) x
next_visited parents order object x next =
    (⊎_elim (λ (e : parent_number parents x ≡ length parents). inl e) (λ (h : In (parent_number parents x) order). inr (in_visited (parent_number parents x) order object h)) next.0, λ other above within same. in_visited other order object (next.1 other above within same))

AreKnown-visited : (parents : List (Option ℕ)) (order : List ℕ) (object : ℕ) (known : List ℕ) → AreKnown parents order known → AreKnown parents (visited order object) known
AreKnown-visited parents order object known is = record {
  objects = is.objects;
  differ = is.differ;
  follow = is.follow;
  next = λ x h. next_visited parents order object x (is.next x h);
}

-- no known object has the one that comes next as its parent
no_child : (parents : List (Option ℕ)) (order : List ℕ) (object : ℕ) (rest : List ℕ) → AreKnown parents order (order ++ object ∷ rest) → (x : ℕ) → In x (order ++ object ∷ rest) → parent_number parents x ≡ object → ⊥
no_child parents order object rest known x h same =
    let within = known.objects object (in_right object order (object ∷ rest) (inl refl)) in
    ⊎_elim
    (λ (none : parent_number parents x ≡ length parents). let fact : object < length parents = within in absurd (omega arith))
    (λ (g : In (parent_number parents x) order). differ_left order object rest known.differ (subst (λ n. In n order) same g))
    (known.next x h).0

-- ---- the object's sibling
module _ (parents : List (Option ℕ)) (order : List ℕ) (object : ℕ) (rest : List ℕ) (known : AreKnown parents order (order ++ object ∷ rest)) where
  is_known : In object (order ++ object ∷ rest)
  is_known = in_right object order (object ∷ rest) (inl refl)

  sibling_new : (sibling : ℕ) → sibling < object → parent_number parents sibling ≡ parent_number parents object → In sibling (order ++ object ∷ rest) → ⊥
  sibling_new sibling below same h =
      differ_left order object rest known.differ ((known.next sibling h).1 object below (known.objects object is_known) (sym same))

  sibling_next : (sibling : ℕ) → IsLast parents (parent_number parents object) object (Some sibling) → IsNext parents (visited order object) sibling
  sibling_next sibling last =
      let next = next_visited parents order object object (known.next object is_known) in (
        ⊎_elim
            (λ (e : parent_number parents object ≡ length parents). inl (last.1 ∙ e))
            (λ (h : In (parent_number parents object) (visited order object)). inr (subst (λ n. In n (visited order object)) (sym last.1) h))
            next.0,
        λ other above within same.
            ⊎_elim
            (λ (here : other ≡ object). subst (λ n. In n (visited order object)) (sym here) (is_visited order object))
            (λ (order_of : (other < object) ⊎ (object < other)).
            ⊎_elim
            (λ (before : other < object). absurd (last.2 other above before (same ∙ last.1)))
            (λ (behind : object < other). next.1 other behind within (same ∙ last.1))
            order_of)
            (cases_order other object),
      )

  sibling_follows : (sibling : ℕ) → parent_number parents sibling ≡ parent_number parents object → Follows parents object sibling
  sibling_follows sibling same =
      ⊎_elim
      (λ (some : parent_number parents object < length parents). inr (subst (IsBelow parents object) (sym same) (below_parent some itself)))
      (λ (none : length parents ≤ parent_number parents object). let within = parent_number_within parents object in inl (omega arith))
      (cases_lt (parent_number parents object) (length parents))

  goes_on : (sibling parent : ℕ) → parent_number parents sibling ≡ parent_number parents object → (parent ≡ object → ⊥) → IsBelow parents object parent → IsBelow parents sibling parent
  goes_on sibling parent same differs below = by object parent below differs same
    where
      by : (one above : ℕ) → IsBelow parents one above → (above ≡ one → ⊥) → parent_number parents sibling ≡ parent_number parents one → IsBelow parents sibling above
      by one above itself n e = absurd (n refl)
      by one above (below_parent some g) n e = below_parent (subst (λ k. k < length parents) (sym e) some) (subst (λ k. IsBelow parents k above) (sym e) g)

  sibling_on : (sibling : ℕ) → parent_number parents sibling ≡ parent_number parents object → (y : ℕ) → In y rest → Follows parents object y → Follows parents sibling y
  sibling_on sibling same y h f =
      ⊎_elim
      (λ (none : parent_number parents y ≡ length parents). inl none)
      (λ (below : IsBelow parents object (parent_number parents y)).
      inr (goes_on sibling (parent_number parents y) same (no_child parents order object rest known y (in_right y order (object ∷ rest) (inr h))) below))
      f

  with_sibling : (sibling : Option ℕ) → IsLast parents (parent_number parents object) object sibling → AreKnown parents (visited order object) (order ++ object ∷ (option_to_list sibling ++ rest))
  with_sibling None last = AreKnown-visited parents order object (order ++ object ∷ rest) known
  with_sibling (Some sibling) last =
      AreKnown-more parents (visited order object) order object sibling rest (AreKnown-visited parents order object (order ++ object ∷ rest) known) (let w : object < length parents = known.objects object is_known in omega (arith, last.0)) (sibling_new sibling last.0 last.1) (sibling_next sibling last) (sibling_follows sibling last.1) (sibling_on sibling last.1)

  in_sibling : (x : ℕ) (sibling : Option ℕ) → In x (order ++ object ∷ rest) → In x (order ++ object ∷ (option_to_list sibling ++ rest))
  in_sibling x None h = h
  in_sibling x (Some sibling) h = in_more x order object sibling rest h

  -- ---- the object's child
  no_child_yet : (sibling : Option ℕ) → IsLast parents (parent_number parents object) object sibling → (x : ℕ) → In x (order ++ object ∷ (option_to_list sibling ++ rest)) → parent_number parents x ≡ object → ⊥
  no_child_yet None last x h same = no_child parents order object rest known x h same
  no_child_yet (Some sibling) last x h same =
      ⊎_elim
      (λ (e : x ≡ sibling). no_child parents order object rest known object is_known (sym last.1 ∙ ap (parent_number parents) (sym e) ∙ same))
      (λ (g : In x (order ++ object ∷ rest)). no_child parents order object rest known x g same)
      (in_cases x order object sibling rest h)

  with_child : (sibling child : Option ℕ) → IsLast parents (parent_number parents object) object sibling → IsLast parents object (length parents) child → AreKnown parents (visited order object) (order ++ object ∷ (option_to_list child ++ (option_to_list sibling ++ rest)))
  with_child sibling None is is_child = with_sibling sibling is
  with_child sibling (Some child) is is_child =
      AreKnown-more parents (visited order object) order object child (option_to_list sibling ++ rest) (with_sibling sibling is) is_child.0
      (λ h. no_child_yet sibling is child h is_child.1)
      (inr (subst (λ n. In n (visited order object)) (sym is_child.1) (is_visited order object)), λ other above within same. absurd (is_child.2 other above within (same ∙ is_child.1)))
      (inr (subst (IsBelow parents object) (sym is_child.1) itself))
      (λ y h f.
      ⊎_elim
      (λ (none : parent_number parents y ≡ length parents). inl none)
      (λ (below : IsBelow parents object (parent_number parents y)).
      inr (below_parent (subst (λ n. n < length parents) (sym is_child.1) (known.objects object is_known)) (subst (λ n. IsBelow parents n (parent_number parents y)) (sym is_child.1) below)))
      f)

  in_child : (x : ℕ) (sibling child : Option ℕ) → In x (order ++ object ∷ rest) → In x (order ++ object ∷ (option_to_list child ++ (option_to_list sibling ++ rest)))
  in_child x sibling None h = in_sibling x sibling h
  in_child x sibling (Some child) h = in_more x order object child (option_to_list sibling ++ rest) (in_sibling x sibling h)

  is_child_in : (x : ℕ) (sibling child : Option ℕ) → child ≡ Some x → In x (order ++ object ∷ (option_to_list child ++ (option_to_list sibling ++ rest)))
  is_child_in x sibling None e = absurd (cc)
  is_child_in x sibling (Some child) e =
      let same : child ≡ x = cc in
      subst (λ n. In n (order ++ object ∷ child ∷ (option_to_list sibling ++ rest))) same (in_new order object child (option_to_list sibling ++ rest))

  is_sibling_in : (x : ℕ) (sibling child : Option ℕ) → sibling ≡ Some x → In x (order ++ object ∷ (option_to_list child ++ (option_to_list sibling ++ rest)))
  is_sibling_in x None child e = absurd (cc)
  is_sibling_in x (Some sibling) None e =
      let same : sibling ≡ x = cc in
      subst (λ n. In n (order ++ object ∷ sibling ∷ rest)) same (in_new order object sibling rest)
  is_sibling_in x (Some sibling) (Some child) e =
      let same : sibling ≡ x = cc in
      in_more x order object child (sibling ∷ rest) (subst (λ n. In n (order ++ object ∷ sibling ∷ rest)) same (in_new order object sibling rest))

-- ---- one turn
pub IsWalk-turn : (parents last before : List (Option ℕ)) (order : List ℕ) (object : ℕ) (rest : List ℕ) → AreLinked parents (length parents) last before → IsWalk parents last before order (order ++ object ∷ rest) → IsWalk parents last before (order ++ object ∷ []) (order ++ object ∷ (option_to_list (slice_index_or last object None) ++ (option_to_list (slice_index_or before object None) ++ rest)))
IsWalk-turn parents last before order object rest linked walk =
    let known = walk.are_known in
    let child = slice_index_or last object None in
    let sibling = slice_index_or before object None in
    let within = known.objects object (in_right object order (object ∷ rest) (inl refl)) in
    let keeps = λ (x : ℕ) (h : In x (order ++ object ∷ rest)). in_child parents order object rest known x sibling child h in
    record {
      are_known = with_child parents order object rest known sibling child (linked.before_is object within) (linked.last_is object (let w : object < length parents = within in omega arith));
      start = λ x e. keeps x (walk.start x e);
      child = λ parent x h e.
          ⊎_elim
          (λ (old : In parent order). keeps x (walk.child parent x old e))
          (λ (new : (parent ≡ object) ⊎ ⊥).
          ⊎_elim
          (λ (same : parent ≡ object). is_child_in parents order object rest known x sibling child (ap (λ n. slice_index_or last n None) (sym same) ∙ e))
          (λ (never : ⊥). absurd never)
          new)
          (in_either parent order (object ∷ []) h);
      sibling = λ other x h e.
          ⊎_elim
          (λ (old : In other order). keeps x (walk.sibling other x old e))
          (λ (new : (other ≡ object) ⊎ ⊥).
          ⊎_elim
          (λ (same : other ≡ object). is_sibling_in parents order object rest known x sibling child (ap (λ n. slice_index_or before n None) (sym same) ∙ e))
          (λ (never : ⊥). absurd never)
          new)
          (in_either other order (object ∷ []) h);
    }
