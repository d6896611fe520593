-- The tables of a set agree with its scripts.
use Rattle.std.proofs.Common.{◌≡◌, ℕ, zero, suc, ◌<◌, ◌==◌, List, [], ◌∷◌, length, Option, None, Some, map, refl, sym, ap, subst, ◌∙◌, arith}
use Rattle.std.specs.Prelude.{slice_get, slice_index_or}
use Rattle.std.specs.List.{AllZip}
use Rattle.std.specs.Option.{option_and_then, option_map}
use Rattle.std.proofs.lemmas.Bool.{eqb-true}
use Rattle.std.proofs.lemmas.Option.{none-some, same_Some}
use Rattle.core_tree.specs.Outlines.{ScriptShape}
use Rattle.script_meaning.specs.Values.{lineage, parent_in}
use Rattle.code_meaning.specs.Code.{Script}
use Rattle.papy_base.specs.Lineage as objects
use Rattle.papy_base.specs.Lineage.{AreRooted, parent_of}
use Rattle.pex_set.specs.Names.{number_in}
use Rattle.pex_set.specs.declared.inherited.MemberPlace.{MemberPlace}
use Rattle.pex_set.specs.declared.inherited.OwnMember.{OwnMember}
use Rattle.pex_set.specs.Nearest.{nearest}
use Rattle.pex_verify.specs.declared.scripts.PropertySignature.{PropertySignature}
use Rattle.pex_verify.specs.declared.scripts.Signature.{Signature}
use Rattle.pex_verify.specs.Agreement.{IsOffered, IsPropertyOffered}
use Rattle.pex_verify.specs.Meanings.{Meanings}
use Rattle.pex_verify.specs.Pairs.{Paired}
use Rattle.pex_verify.proofs.Views.{StateView, view_of, AreViewed, IsOutlined, AreMembersOf, HaveSignatures, Replaces, sought, KeepsAbove, PropertyFound, heads_of, first_head, HaveProperties, AreNew, ArePropertyMembers, head_at}
use Rattle.pex_verify.proofs.Offered.{IsOffered-from_views}
use Rattle.pex_verify.proofs.Properties.{IsPropertyOffered-from_heads, head_sought_is}
use Rattle.pex_verify.proofs.Sought.{Replaces-from_tables, offered_from_sought, numbered_is}
use Rattle.pex_verify.proofs.Upward.{same_lineage}

-- lists whose items belong together, place by place, are so item by item
pub zip_from_paired : {X Y : Type 0} (R : X → Y → Type 0) (xs : List X) (ys : List Y) → Paired X Y (λ n x y. R x y) xs ys → AllZip R xs ys
zip_from_paired R [] [] h = tt
zip_from_paired R [] (y ∷ ys) h = let e = h.count in absurd (omega arith)
zip_from_paired R (x ∷ xs) [] h = let e = h.count in absurd (omega arith)
zip_from_paired R (x ∷ xs) (y ∷ ys) h =
    let e = h.count in
    (h.each 0 x y (omega arith), zip_from_paired R xs ys (record { count = omega arith; each = λ k a b l. h.each (suc k) a b (omega arith) }))

-- the head of a property at its place among those of all scripts
pub head_at_map : {A : Type 0} (f : A → List PropertySignature) (xs : List A) (place : MemberPlace) → option_and_then (λ x. slice_get (f x) place.place) (slice_get xs place.object) ≡ head_at (map f xs) place
head_at_map {A} f xs place = by xs place.object
  where
    by : (xs : List A) (object : ℕ) → option_and_then (λ x. slice_get (f x) place.place) (slice_get xs object) ≡ slice_get (slice_index_or (map f xs) object []) place.place
    by [] object = refl
    by (x ∷ xs) zero = refl
    by (x ∷ xs) (suc object) = by xs object

module _ (types : Meanings) (names : List (List ℕ)) (outline : List ScriptShape) (scripts : List Script) (parents : List (Option ℕ)) (count : length outline ≡ length parents) (same : (script : ℕ) → parent_in (slice_get outline script) ≡ parent_of parents script) (members : List OwnMember) (found : ℕ → ℕ → Option MemberPlace) (finds : (script name : ℕ) → script < length parents → found script name ≡ nearest members (objects.lineage parents (Some script)) (0, name)) where
  found_upward : (script name : ℕ) → script < length parents → found script name ≡ nearest members (lineage outline (Some script)) (0, name)
  found_upward script name within =
      finds script name within ∙ ap (λ l. nearest members l (0, name)) (sym (same_lineage outline parents count same (Some script)))

  module _ (views : List (List StateView)) (signature_at : MemberPlace → Option Signature) (viewed : AreViewed types names outline scripts views) (outlined : IsOutlined types outline views) (are : AreMembersOf views members) (have : HaveSignatures views signature_at) where
    sought_upward : (script name : ℕ) → script < length parents → option_and_then signature_at (found script name) ≡ sought outline members signature_at script name
    sought_upward script name within = ap (option_and_then signature_at) (found_upward script name within)

    -- what V11 says of what the table finds
    module _ (above_within : (script parent : ℕ) → parent_in (slice_get outline script) ≡ Some parent → parent < length parents) (views_within : (script i : ℕ) (view : StateView) → slice_get (view_of views script) i ≡ Some view → script < length parents) (keeps : KeepsAbove outline views (λ script name. option_and_then signature_at (found script name))) where
      keeps_sought : KeepsAbove outline views (sought outline members signature_at)
      keeps_sought = record {
        empty_states = λ script parent i j view declared above v zero f p a. keeps.empty_states script parent i j view declared above v zero f p (sought_upward parent declared.name (above_within script parent p) ∙ a);
        other_states = λ script i j view declared v other f.
            let k = keeps.other_states script i j view declared v other f in
            let here = k.1 in
            (k.0, (here.0, sym (sought_upward script declared.name (views_within script i view v)) ∙ here.1, here.2));
      }

      pub views_replace : Replaces outline views
      views_replace = Replaces-from_tables outline views members signature_at are have keeps_sought

      -- a function that the table finds is offered
      pub functions_agree : (script number : ℕ) (name : List ℕ) (signature : Signature) → script < length parents → number_in names name ≡ Some number → option_and_then signature_at (found script number) ≡ Some signature → IsOffered types outline scripts script name signature
      functions_agree script number name signature within named e =
          IsOffered-from_views types names outline scripts views viewed views_replace outlined script number name signature named (offered_from_sought outline views members signature_at are have script number signature (sym (sought_upward script number within) ∙ e))

  module _ (heads : List (List PropertySignature)) (property_at : MemberPlace → Option PropertySignature) (at_heads : (place : MemberPlace) → property_at place ≡ head_at heads place) (are : ArePropertyMembers heads members) where
    at_same : (o : Option MemberPlace) → option_and_then property_at o ≡ option_and_then (head_at heads) o
    at_same None = refl
    at_same (Some place) = at_heads place

    head_upward : (script name : ℕ) → script < length parents → option_and_then property_at (found script name) ≡ option_map (λ (f : PropertyFound). f.head) (first_head heads (lineage outline (Some script)) name)
    head_upward script name within =
        at_same (found script name) ∙ ap (option_and_then (head_at heads)) (found_upward script name within) ∙ head_sought_is outline heads members are script name

    no_head : (o : Option PropertyFound) → option_map (λ (f : PropertyFound). f.head) o ≡ None → o ≡ None
    no_head None h = refl
    no_head (Some f) h = absurd (none-some f.head (sym h))

    -- what V5 says of what the table finds
    pub new_by_table : ((script parent : ℕ) → parent_in (slice_get outline script) ≡ Some parent → parent < length parents) → ((script parent k : ℕ) (head : PropertySignature) → slice_get (heads_of heads script) k ≡ Some head → parent_in (slice_get outline script) ≡ Some parent → option_and_then property_at (found parent head.name) ≡ None) → AreNew outline heads
    new_by_table above_within new script parent name own e p =
        let own_is = numbered_is (λ (head : PropertySignature). head.name == name) (heads_of heads script) own e in
        let named = eqb-true own.1.name name own_is.passes in
        let none = subst (λ n. option_and_then property_at (found parent n) ≡ None) named (new script parent own.0 own.1 own_is.stands p) in
        no_head (first_head heads (lineage outline (Some parent)) name) (sym (head_upward parent name (above_within script parent p)) ∙ none)

    found_head : (property : PropertySignature) (o : Option PropertyFound) → option_map (λ (f : PropertyFound). f.head) o ≡ Some property → (f : PropertyFound) × (o ≡ Some f) × (f.head ≡ property)
    found_head property None h = absurd (none-some property h)
    found_head property (Some f) h = (f, refl, same_Some f.head property h)

    -- a property that the table finds is offered
    pub properties_agree : HaveProperties types names outline scripts heads → AreNew outline heads → (script number : ℕ) (name : List ℕ) (property : PropertySignature) → script < length parents → number_in names name ≡ Some number → option_and_then property_at (found script number) ≡ Some property → IsPropertyOffered types outline scripts script name property
    properties_agree have new script number name property within named e =
        let f = found_head property (first_head heads (lineage outline (Some script)) number) (sym (head_upward script number within) ∙ e) in
        subst (IsPropertyOffered types outline scripts script name) f.2 (IsPropertyOffered-from_heads types names outline scripts heads have new script number name f.0 named f.1)
