-- The objects above an object, as a test, as a relation, and by how many they are.
use Rattle.std.proofs.Common.{◌≡◌, ℕ, zero, suc, ◌<◌, ◌≤◌, ◌⊎◌, min, ◌==◌, true, List, [], ◌∷◌, ◌++◌, length, Option, Some, None, IfSome, All, slice_get, refl, sym, ap, subst, ◌∙◌, inl, inr, ⊎_elim, arith}
use Rattle.std.specs.List.{list_any}
use Rattle.std.specs.Option.{option_and_then}
use Rattle.std.proofs.lemmas.Bool.{eqb-true, eq-eqb, or_cases, or_left, or_right}
use Rattle.std.proofs.lemmas.List.Elements.{All-head, All-tail}
use Rattle.papy_base.specs.Lineage.{parent_of, upward, lineage, stands_below}
use Rattle.papy_base.specs.Orders.{number_of, parent_number, IsForest, IsBelow, itself, below_parent}

pub below_below : {parents : List (Option ℕ)} {one other above : ℕ} → IsBelow parents one other → IsBelow parents other above → IsBelow parents one above
below_below itself h = h
below_below (below_parent within g) h = below_parent within (below_below g h)

-- ---- parents
item_among : (xs : List (Option ℕ)) (count : ℕ) → All (λ item. IfSome item (λ n. n < count)) xs → (place item : ℕ) → option_and_then (λ x. x) (slice_get xs place) ≡ Some item → item < count
item_among [] count h place item e = absurd (cc)
item_among (x ∷ xs) count h zero item e =
    let P : Option ℕ → Type 0 = λ o. IfSome o (λ n. n < count) in
    subst P e (All-head P x xs h)
item_among (x ∷ xs) count h (suc place) item e = item_among xs count (All-tail (λ o. IfSome o (λ n. n < count)) x xs h) place item e

below_min : (parent count : ℕ) → parent < count → min parent count ≡ parent
below_min parent count h = omega arith

pub parent_number_within : (parents : List (Option ℕ)) (object : ℕ) → parent_number parents object ≤ length parents
parent_number_within parents object = by (parent_of parents object)
  where
    by : (o : Option ℕ) → number_of (length parents) o ≤ length parents
    by None = omega arith
    by (Some parent) = omega arith

-- an object has no parent, or one that is an object
pub parent_cases : (parents : List (Option ℕ)) → IsForest parents → (object : ℕ) → ((parent_of parents object ≡ None) × (parent_number parents object ≡ length parents)) ⊎ ((parent_of parents object ≡ Some (parent_number parents object)) × (parent_number parents object < length parents))
parent_cases parents forest object = by (parent_of parents object) refl
  where
    by : (o : Option ℕ) → parent_of parents object ≡ o → ((parent_of parents object ≡ None) × (parent_number parents object ≡ length parents)) ⊎ ((parent_of parents object ≡ Some (parent_number parents object)) × (parent_number parents object < length parents))
    by None e = inl (e, ap (number_of (length parents)) e)
    by (Some parent) e =
        let within : parent < length parents = item_among parents (length parents) forest.among object parent e in
        let same : parent_number parents object ≡ parent = ap (number_of (length parents)) e ∙ below_min parent (length parents) within in
        inr (e ∙ ap (λ n. Some n) (sym same), omega arith)

-- ---- depth
pub depth : List (Option ℕ) → ℕ → ℕ
depth parents object = length (lineage parents (Some object))

pub depth_above : (parents : List (Option ℕ)) → IsForest parents → (object : ℕ) → object < length parents → parent_number parents object < length parents → depth parents (parent_number parents object) < depth parents object
unfolding depth
depth_above parents forest object within is_object =
    ⊎_elim
    (λ (none : (parent_of parents object ≡ None) × (parent_number parents object ≡ length parents)). absurd (omega arith))
    (λ (some : (parent_of parents object ≡ Some (parent_number parents object)) × (parent_number parents object < length parents)).
    let longer : length (lineage parents (Some object)) ≡ suc (length (lineage parents (Some (parent_number parents object)))) = ap length (forest.rooted object within) ∙ ap (λ o. suc (length (lineage parents o))) some.0 in
    omega arith)
    (parent_cases parents forest object)

lower_below : (parents : List (Option ℕ)) → IsForest parents → {object above : ℕ} → IsBelow parents object above → object < length parents → depth parents above ≤ depth parents object
lower_below parents forest itself within = omega arith
lower_below parents forest (below_parent {object} {above} is_object h) within =
    let one = depth_above parents forest object within is_object in
    let further = lower_below parents forest h is_object in
    omega arith

-- two objects that stand below one another are one
pub below_both : (parents : List (Option ℕ)) → IsForest parents → (one other : ℕ) → one < length parents → other < length parents → IsBelow parents one other → IsBelow parents other one → one ≡ other
below_both parents forest one other within within' itself h = refl
below_both parents forest one other within within' (below_parent is_object g) h =
    let step = depth_above parents forest one within is_object in
    let down = lower_below parents forest g is_object in
    let up = lower_below parents forest h within' in
    absurd (omega arith)

pub not_above_itself : (parents : List (Option ℕ)) → IsForest parents → (object : ℕ) → object < length parents → parent_number parents object < length parents → IsBelow parents (parent_number parents object) object → ⊥
not_above_itself parents forest object within is_object h =
    let step = depth_above parents forest object within is_object in
    let back = lower_below parents forest h is_object in
    absurd (omega arith)

-- ---- the test and the relation
stands_further : (parents : List (Option ℕ)) → IsForest parents → (object above : ℕ) → object < length parents → parent_number parents object < length parents → stands_below parents (parent_number parents object) above ≡ true → stands_below parents object above ≡ true
stands_further parents forest object above within is_object h =
    ⊎_elim
    (λ (none : (parent_of parents object ≡ None) × (parent_number parents object ≡ length parents)). absurd (omega arith))
    (λ (some : (parent_of parents object ≡ Some (parent_number parents object)) × (parent_number parents object < length parents)).
    ap (list_any (λ other. other == above)) (forest.rooted object within)
    ∙ or_right (object == above) (list_any (λ other. other == above) (lineage parents (parent_of parents object)))
    (ap (λ o. list_any (λ other. other == above) (lineage parents o)) some.0 ∙ h))
    (parent_cases parents forest object)

pub stands_from_below : (parents : List (Option ℕ)) → IsForest parents → {object above : ℕ} → IsBelow parents object above → object < length parents → stands_below parents object above ≡ true
stands_from_below parents forest (itself {object}) within =
    ap (list_any (λ other. other == object)) (forest.rooted object within) ∙ or_left (object == object) (list_any (λ other. other == object) (lineage parents (parent_of parents object))) (eq-eqb object object refl)
stands_from_below parents forest (below_parent {object} {above} is_object h) within =
    stands_further parents forest object above within is_object (stands_from_below parents forest h is_object)

none_above : (parents : List (Option ℕ)) (left above : ℕ) → list_any (λ other. other == above) (upward left parents None) ≡ true → ⊥
unfolding upward
none_above parents zero above h = cc
none_above parents (suc left) above h = cc

below_at : (parents : List (Option ℕ)) → IsForest parents → (left object above : ℕ) → list_any (λ other. other == above) (upward left parents (Some object)) ≡ true → IsBelow parents object above
unfolding upward
below_at parents forest zero object above h = absurd (cc)
below_at parents forest (suc left) object above h =
    ⊎_elim
    (λ (same : (object == above) ≡ true). subst (λ n. IsBelow parents object n) (eqb-true object above same) itself)
    (λ (further : list_any (λ other. other == above) (upward left parents (parent_of parents object)) ≡ true).
    ⊎_elim
    (λ (none : (parent_of parents object ≡ None) × (parent_number parents object ≡ length parents)).
    absurd (none_above parents left above (ap (λ o. list_any (λ other. other == above) (upward left parents o)) (sym none.0) ∙ further)))
    (λ (some : (parent_of parents object ≡ Some (parent_number parents object)) × (parent_number parents object < length parents)).
    below_parent some.1 (below_at parents forest left (parent_number parents object) above (ap (λ o. list_any (λ other. other == above) (upward left parents o)) (sym some.0) ∙ further)))
    (parent_cases parents forest object))
    (or_cases (object == above) (list_any (λ other. other == above) (upward left parents (parent_of parents object))) h)

pub below_from_stands : (parents : List (Option ℕ)) → IsForest parents → (object above : ℕ) → stands_below parents object above ≡ true → IsBelow parents object above
below_from_stands parents forest object above h = below_at parents forest (length parents) object above h

-- ---- lineages
below_within : {parents : List (Option ℕ)} {object above : ℕ} → IsBelow parents object above → object < length parents → above < length parents
below_within itself within = within
below_within (below_parent is_object h) within = below_within h is_object

-- what stands above an object is one
pub above_within : (parents : List (Option ℕ)) → IsForest parents → (object above : ℕ) → object < length parents → stands_below parents object above ≡ true → above < length parents
above_within parents forest object above within stands = below_within (below_from_stands parents forest object above stands) within

-- what stands above an object is the object, or stands above its parent
pub stands_cases : (parents : List (Option ℕ)) → IsForest parents → (object above : ℕ) → stands_below parents object above ≡ true → (object ≡ above) ⊎ ((parent : ℕ) × (parent_of parents object ≡ Some parent) × (stands_below parents parent above ≡ true))
stands_cases parents forest object above stands = by (below_from_stands parents forest object above stands)
  where
    by : {one : ℕ} → IsBelow parents one above → (one ≡ above) ⊎ ((parent : ℕ) × (parent_of parents one ≡ Some parent) × (stands_below parents parent above ≡ true))
    by itself = inl refl
    by (below_parent {object = one} is_object h) =
        ⊎_elim
        (λ (none : (parent_of parents one ≡ None) × (parent_number parents one ≡ length parents)). absurd (omega arith))
        (λ (some : (parent_of parents one ≡ Some (parent_number parents one)) × (parent_number parents one < length parents)).
        inr (parent_number parents one, some.0, stands_from_below parents forest h is_object))
        (parent_cases parents forest one)

-- an object stands below those above the ones that it stands below
pub stands_on : (parents : List (Option ℕ)) → IsForest parents → (object other above : ℕ) → object < length parents → stands_below parents object other ≡ true → stands_below parents other above ≡ true → stands_below parents object above ≡ true
stands_on parents forest object other above within lower upper =
    stands_from_below parents forest (below_below (below_from_stands parents forest object other lower) (below_from_stands parents forest other above upper)) within

ends_in : (parents : List (Option ℕ)) → IsForest parents → {object above : ℕ} → IsBelow parents object above → object < length parents → (nearer : List ℕ) × (lineage parents (Some object) ≡ nearer ++ lineage parents (Some above))
ends_in parents forest itself within = ([], refl)
ends_in parents forest (below_parent {object} {above} is_object h) within =
    ⊎_elim
    (λ (none : (parent_of parents object ≡ None) × (parent_number parents object ≡ length parents)). absurd (omega arith))
    (λ (some : (parent_of parents object ≡ Some (parent_number parents object)) × (parent_number parents object < length parents)).
    let w = ends_in parents forest h is_object in
    (object ∷ w.0, forest.rooted object within ∙ ap (λ o. object ∷ lineage parents o) some.0 ∙ ap (λ xs. object ∷ xs) w.1))
    (parent_cases parents forest object)

-- the lineage of what stands above an object is the end of the object's own
pub lineage_ends : (parents : List (Option ℕ)) → IsForest parents → (object above : ℕ) → object < length parents → stands_below parents object above ≡ true → (nearer : List ℕ) × (lineage parents (Some object) ≡ nearer ++ lineage parents (Some above))
lineage_ends parents forest object above within stands = ends_in parents forest (below_from_stands parents forest object above stands) within
