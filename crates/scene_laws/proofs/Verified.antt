-- What a bound scene rests on, of the outline of a set that was verified.
use Rattle.std.proofs.Common.{◌≡◌, ℕ, zero, suc, ◌<◌, List, [], ◌∷◌, length, map, Option, Some, None, refl, sym, ap, subst, ◌∙◌, arith}
use Rattle.std.specs.Prelude.{slice_get}
use Rattle.std.specs.List.{All, AllByRecursion, Contains}
use Rattle.std.specs.Option.{option_map}
use Rattle.std.proofs.lemmas.List.Elements.{All-contains}
use Rattle.std.proofs.lemmas.Option.{slice_get-map}
use Rattle.core_tree.specs.declared.core_type.CoreType.{CoreType}
use Rattle.core_tree.specs.declared.outline.OutlineProperty.{OutlineProperty}
use Rattle.core_tree.specs.declared.outline.OutlineScript.{OutlineScript}
use Rattle.core_tree.specs.declared.outline.OutlineVariable.{OutlineVariable}
use Rattle.core_tree.specs.Outlines.{ScriptShape, script_shape}
use Rattle.run_laws.specs.Fits.{HaveTypes, Known, known, typed, variable_kinds}
use Rattle.run_laws.specs.Keeps.{IsVariable}
use Rattle.script_meaning.specs.First.{initial_in}
use Rattle.script_meaning.specs.Values.{lineage}
use Rattle.scene_binder.specs.Members.{HasProperty, properties_in}
use Rattle.pex_verify.specs.AsMeant.{BeginsFit, HasVariable, IsReady}
use Rattle.scene_laws.specs.Offers.{NativesHavePlaces, OutlineFits, shapes}

values_fit : (known : Known) (vs : List OutlineVariable) → AllByRecursion BeginsFit vs → HaveTypes known (typed (map (λ v. v.kind) vs)) (map (λ v. v.value) vs)
values_fit known [] a = tt
values_fit known (v ∷ vs) a = (a.0 known, values_fit known vs a.1)

ready_at : (outlines : List OutlineScript) (n : ℕ) (o : OutlineScript) → AllByRecursion IsReady (shapes outlines) → slice_get outlines n ≡ Some o → IsReady (script_shape o)
ready_at [] n o a e = absurd (cc)
ready_at (x ∷ xs) zero o a e =
    let same : x ≡ o = cc in
    subst (λ s. IsReady (script_shape s)) same a.0
ready_at (x ∷ xs) (suc n) o a e = ready_at xs n o a.1 e

shape_at : (outlines : List OutlineScript) (n : ℕ) (o : Option OutlineScript) → slice_get outlines n ≡ o → slice_get (shapes outlines) n ≡ option_map script_shape o
shape_at outlines n o e = slice_get-map script_shape outlines n ∙ ap (option_map script_shape) e

initial_fit : (outlines : List OutlineScript) (n : ℕ) (k : Known) → AllByRecursion IsReady (shapes outlines) → HaveTypes k (typed (variable_kinds (slice_get (shapes outlines) n))) (initial_in (slice_get (shapes outlines) n))
initial_fit outlines n k a = fit_by (slice_get outlines n) refl where
  fit_by : (o : Option OutlineScript) → slice_get outlines n ≡ o → HaveTypes k (typed (variable_kinds (slice_get (shapes outlines) n))) (initial_in (slice_get (shapes outlines) n))
  fit_by None e =
      subst (λ s. HaveTypes k (typed (variable_kinds s)) (initial_in s)) (sym (shape_at outlines n None e)) tt
  fit_by (Some o) e =
      subst (λ s. HaveTypes k (typed (variable_kinds s)) (initial_in s)) (sym (shape_at outlines n (Some o) e)) (values_fit k o.variables.items (ready_at outlines n o a e).variables)

each_of : {X : Type 0} (P : X → Type 0) (xs : List X) → AllByRecursion P xs → All P xs
each_of P [] a k d l = absurd (omega (arith, l))
each_of P (x ∷ xs) a zero d l = a.0
each_of P (x ∷ xs) a (suc k) d l = each_of P xs a.1 k d (omega (arith, l))

kind_there : (vs : List OutlineVariable) (n : ℕ) (kind : CoreType) → option_map (λ v. v.kind) (slice_get vs n) ≡ Some kind → slice_get (map (λ v. v.kind) vs) n ≡ Some kind
kind_there vs n kind e = slice_get-map (λ v. v.kind) vs n ∙ e

property_fits : (outlines : List OutlineScript) (n : ℕ) (property : OutlineProperty) → AllByRecursion IsReady (shapes outlines) → HasProperty outlines n property → IsVariable (shapes outlines) n property.variable property.kind
property_fits outlines n property a has = fit_by (slice_get outlines n) refl where
  fit_by : (o : Option OutlineScript) → slice_get outlines n ≡ o → IsVariable (shapes outlines) n property.variable property.kind
  fit_by None e =
      let none : Contains [] property = subst (λ o. Contains (properties_in o) property) e has in
      absurd (All-contains (λ p. ⊥) [] property (λ k d l. absurd (omega (arith, l))) none)
  fit_by (Some o) e =
      let there : Contains o.properties.items property = subst (λ s. Contains (properties_in s) property) e has in
      let ready = ready_at outlines n o a e in
      let found = All-contains (HasVariable o.variables.items) o.properties.items property (each_of (HasVariable o.variables.items) o.properties.items ready.properties) there in
      ap (λ s. slice_get (variable_kinds s) property.variable) (shape_at outlines n (Some o) e) ∙ kind_there o.variables.items property.variable property.kind found

pub outline_fits : (outlines : List OutlineScript) → ((script : ℕ) (shape : ScriptShape) → slice_get (shapes outlines) script ≡ Some shape → lineage (shapes outlines) (Some script) ≡ script ∷ lineage (shapes outlines) shape.parent) → AllByRecursion IsReady (shapes outlines) → length outlines < 65536 → NativesHavePlaces outlines → OutlineFits outlines
outline_fits outlines above ready few natives = record {
  above = above;
  initial = λ script. initial_fit outlines script (known (shapes outlines) [] []) ready;
  properties = λ script property has. property_fits outlines script property ready has;
  scripts = few;
  functions = natives;
}
