use Rattle.std.proofs.Common.{◌≡◌, ℕ, zero, suc, ◌+◌, ◌<◌, ◌≤◌, List, [], ◌∷◌, ◌++◌, All, Option, None, Some, IfSome, length, get_or, take, refl, sym, ap, subst, ◌∙◌, arith}
use Rattle.std.specs.Prelude.{option_to_list}
use Rattle.std.specs.List.{cons_option, filter_map}
use Rattle.std.proofs.lemmas.List.{take_all}
use Rattle.std.proofs.lemmas.List.Elements.{All-head, All-nil, All-tail, filter_map-append}
use Rattle.core_tree.specs.declared.outline.OutlineProperty.{OutlineProperty}
use Rattle.pex_verify.specs.declared.judged.JudgedProperty.{JudgedProperty}
use Rattle.pex_verify.specs.Outlining.{property_with, auto_property}
use Rattle.pex_verify.specs.Places.{bounds_of}
use Rattle.pex_verify.specs.Soundness.{Bounds, IsSoundProperty, IsOutlineProperty}
use Rattle.pex_verify.proofs.Pairs.{take_next}
use Rattle.pex_verify.proofs.outlining.outline_properties.Goals as goal

alone : (o : Option OutlineProperty) → option_to_list o ≡ cons_option o []
alone None = refl
alone (Some property) = refl

-- what is kept of one property more
kept_next : (xs : List JudgedProperty) (i : ℕ) (x d : JudgedProperty) (before later : List OutlineProperty) (o : Option OutlineProperty) → i < length xs → x ≡ get_or xs i d → before ≡ filter_map auto_property (take i xs) → o ≡ auto_property x → later ≡ before ++ option_to_list o → later ≡ filter_map auto_property (take (i + 1) xs)
kept_next xs i x d before later o within is so_far kept grown =
    grown
    ∙ ap (λ (l : List OutlineProperty). l ++ option_to_list o) so_far
    ∙ ap (λ (p : Option OutlineProperty). filter_map auto_property (take i xs) ++ option_to_list p) kept
    ∙ ap (λ (l : List OutlineProperty). filter_map auto_property (take i xs) ++ l) (alone (auto_property x))
    ∙ sym (filter_map-append auto_property (take i xs) (x ∷ []))
    ∙ ap (filter_map auto_property) (sym (take_next xs i x d within is))

-- ---- numbers in range
all_more : (bounds : Bounds) (o : Option OutlineProperty) (ys : List OutlineProperty) → IfSome o (IsOutlineProperty bounds) → All (IsOutlineProperty bounds) ys → All (IsOutlineProperty bounds) (cons_option o ys)
all_more bounds None ys here rest = rest
all_more bounds (Some y) ys here rest = λ k d h. by k d h
  where
    by : (k : ℕ) (d : OutlineProperty) → k < suc (length ys) → IsOutlineProperty bounds (get_or (y ∷ ys) k d)
    by zero d h = here
    by (suc k) d h = rest k d (omega arith)

property_sound : (bounds : Bounds) (property : JudgedProperty) (o : Option ℕ) → IsSoundProperty bounds property → IfSome o (λ n. n < bounds.variables) → IfSome (property_with property o) (IsOutlineProperty bounds)
property_sound bounds property None sound within = tt
property_sound bounds property (Some variable) sound within = record { kind = sound.kind; variable = within }

kept_sound : (bounds : Bounds) (xs : List JudgedProperty) → All (IsSoundProperty bounds) xs → All (IsOutlineProperty bounds) (filter_map auto_property xs)
kept_sound bounds [] all = All-nil (IsOutlineProperty bounds)
kept_sound bounds (x ∷ xs) all =
    let here = All-head (IsSoundProperty bounds) x xs all in
    all_more bounds (auto_property x) (filter_map auto_property xs) (property_sound bounds x x.variable here here.variable)
    (kept_sound bounds xs (All-tail (IsSoundProperty bounds) x xs all))

pub loop-property-preserved : goal.loop-property-preserved
loop-property-preserved c =
    let properties = c.args.properties.now in
    let within : c.loop-property.property-index < length properties = omega arith in
    kept_next properties c.loop-property.property-index c.property-item.result c.property-item.result c.loop-property.found.items _ _ within c.property-item.is c.loop-property.invariant c.in_ok-outline_property.ensures c.in_ok-add_where_some.ensures

pub returns-clause-properties : goal.returns-clause-properties
returns-clause-properties c =
    let properties = c.args.properties.now in
    let past : length properties ≤ c.loop-property.property-index = omega arith in
    c.loop-property.invariant ∙ ap (filter_map auto_property) (take_all c.loop-property.property-index properties past)

pub returns-clause-sound : goal.returns-clause-sound
returns-clause-sound c =
    subst (λ (l : List OutlineProperty). All (IsOutlineProperty (bounds_of c.args.home.now)) l) (sym (returns-clause-properties c))
    (kept_sound (bounds_of c.args.home.now) c.args.properties.now c.requires)
