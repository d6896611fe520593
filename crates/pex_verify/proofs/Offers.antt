-- What scripts offer upward, where what replaces is alike.
use Rattle.std.proofs.Common.{◌≡◌, ℕ, zero, suc, ◌==◌, true, List, ◌∷◌, length, Option, None, Some, refl, sym, ap, subst, ◌∙◌, ⊎_elim}
use Rattle.std.specs.Prelude.{slice_get}
use Rattle.std.specs.List.{list_any}
use Rattle.std.specs.Option.{option_or, option_map}
use Rattle.std.proofs.lemmas.Bool.{eqb-true, or_cases, false≢true, cases_eq}
use Rattle.std.proofs.lemmas.Option.{none-some, same_Some}
use Rattle.core_tree.specs.Outlines.{ScriptShape}
use Rattle.script_meaning.specs.Values.{upward, lineage, parent_in, is_child}
use Rattle.pex_verify.specs.Signatures.{Declared, AreAlike}
use Rattle.pex_verify.proofs.Views.{StateView, view_of, OwnFound, own_found, ViewFound, found_of_script, first_found, offered, Replaces, StandsBelow, itself, below_parent}

-- ---- alike
AreAlike-refl : (a : Declared) → AreAlike a a
AreAlike-refl a = record { answer = refl; parameters = refl; bits = refl }

AreAlike-sym : (a b : Declared) → AreAlike a b → AreAlike b a
AreAlike-sym a b h = record { answer = sym h.answer; parameters = sym h.parameters; bits = sym h.bits }

AreAlike-trans : (a b c : Declared) → AreAlike a b → AreAlike b c → AreAlike a c
AreAlike-trans a b c h k =
    record { answer = h.answer ∙ k.answer; parameters = h.parameters ∙ k.parameters; bits = h.bits ∙ k.bits }

-- ---- scripts upward
nothing_upward : (n : ℕ) (outline : List ScriptShape) (above : ℕ) → list_any (λ s. s == above) (upward n outline None) ≡ true → ⊥
nothing_upward zero outline above h = false≢true h
nothing_upward (suc n) outline above h = false≢true h

below_by : (n : ℕ) (outline : List ScriptShape) (script above : ℕ) (o : Option ℕ) → parent_in (slice_get outline script) ≡ o → list_any (λ s. s == above) (upward n outline (parent_in (slice_get outline script))) ≡ true → ((parent : ℕ) → list_any (λ s. s == above) (upward n outline (Some parent)) ≡ true → StandsBelow outline parent above) → StandsBelow outline script above
below_by n outline script above None e h rec =
    absurd (nothing_upward n outline above (subst (λ o. list_any (λ s. s == above) (upward n outline o) ≡ true) e h))
below_by n outline script above (Some parent) e h rec =
    below_parent e (rec parent (subst (λ o. list_any (λ s. s == above) (upward n outline o) ≡ true) e h))

below_from_upward : (n : ℕ) (outline : List ScriptShape) (script above : ℕ) → list_any (λ s. s == above) (upward n outline (Some script)) ≡ true → StandsBelow outline script above
below_from_upward zero outline script above h = absurd (false≢true h)
below_from_upward (suc n) outline script above h =
    ⊎_elim
    (λ here. subst (StandsBelow outline script) (eqb-true script above here) itself)
    (λ later. below_by n outline script above (parent_in (slice_get outline script)) refl later (λ parent. below_from_upward n outline parent above))
    (or_cases (script == above) (list_any (λ s. s == above) (upward n outline (parent_in (slice_get outline script)))) h)

pub below_from_child : (outline : List ScriptShape) (script above : ℕ) → is_child outline script above ≡ true → StandsBelow outline script above
below_from_child outline script above h = below_from_upward (length outline) outline script above h

-- ---- what is found upward stands in a script above
pub record IsFoundAbove (outline : List ScriptShape) (views : List (List StateView)) (script state name : ℕ) (found : ViewFound) : Type 0 where
  pub below : StandsBelow outline script found.script
  pub own : own_found (view_of views found.script) state name ≡ Some found.own

above_by : (outline : List ScriptShape) (views : List (List StateView)) (script state name : ℕ) (rest : Option ViewFound) (found : ViewFound) (o : Option OwnFound) → own_found (view_of views script) state name ≡ o → option_or (found_of_script script o) rest ≡ Some found → (rest ≡ Some found → IsFoundAbove outline views script state name found) → IsFoundAbove outline views script state name found
above_by outline views script state name rest found None e h rec = rec h
above_by outline views script state name rest found (Some own) e h rec =
    let same = same_Some _ found h in
    let place : script ≡ found.script = ap (λ f. f.script) same in
    let own_same : own ≡ found.own = ap (λ f. f.own) same in
    record {
      below = subst (StandsBelow outline script) place itself;
      own = subst (λ s. own_found (view_of views s) state name ≡ Some found.own) place (e ∙ ap (λ x. Some x) own_same);
    }

no_scripts : (n : ℕ) (outline : List ScriptShape) (views : List (List StateView)) (state name : ℕ) (found : ViewFound) → first_found views (upward n outline None) state name ≡ Some found → ⊥
no_scripts zero outline views state name found h = none-some found h
no_scripts (suc n) outline views state name found h = none-some found h

parent_above : (n : ℕ) (outline : List ScriptShape) (views : List (List StateView)) (script state name : ℕ) (found : ViewFound) (o : Option ℕ) → parent_in (slice_get outline script) ≡ o → first_found views (upward n outline o) state name ≡ Some found → ((parent : ℕ) → first_found views (upward n outline (Some parent)) state name ≡ Some found → IsFoundAbove outline views parent state name found) → IsFoundAbove outline views script state name found
parent_above n outline views script state name found None e h rec = absurd (no_scripts n outline views state name found h)
parent_above n outline views script state name found (Some parent) e h rec =
    let r = rec parent h in
    record { below = below_parent e r.below; own = r.own }

pub found_above : (n : ℕ) (outline : List ScriptShape) (views : List (List StateView)) (script state name : ℕ) (found : ViewFound) → first_found views (upward n outline (Some script)) state name ≡ Some found → IsFoundAbove outline views script state name found
found_above zero outline views script state name found h = absurd (none-some found h)
found_above (suc n) outline views script state name found h =
    above_by outline views script state name (first_found views (upward n outline (parent_in (slice_get outline script))) state name) found (own_found (view_of views script) state name) refl h (λ rest. parent_above n outline views script state name found (parent_in (slice_get outline script)) refl rest (λ parent. found_above n outline views parent state name found))

-- ---- what a script offers is alike what those above it offer
module _ (outline : List ScriptShape) (views : List (List StateView)) (rooted : (script parent : ℕ) → parent_in (slice_get outline script) ≡ Some parent → lineage outline (Some script) ≡ script ∷ lineage outline (Some parent)) (replaces : Replaces outline views) where
  -- something is offered, and alike this
  unfoldable pub OffersAlike : ℕ → ℕ → Declared → Type 0
  OffersAlike script name above =
      (here : Declared) × (offered outline views (Some script) name ≡ Some here) × AreAlike here above

  offers_by : (script parent name : ℕ) (above : Declared) → parent_in (slice_get outline script) ≡ Some parent → (o : Option OwnFound) → own_found (view_of views script) 0 name ≡ o → OffersAlike parent name above → (here : Declared) × (option_map (λ (found : ViewFound). found.own.declared) (option_or (found_of_script script o) (first_found views (lineage outline (Some parent)) 0 name)) ≡ Some here) × AreAlike here above
  unfolding OffersAlike
  offers_by script parent name above p None e h = h
  offers_by script parent name above p (Some own) e h =
      (own.declared, refl, AreAlike-trans own.declared h.0 above (replaces.empty_states script parent name own h.0 e p h.1) h.2)

  pub offers_upward : {script above : ℕ} → StandsBelow outline script above → (name : ℕ) (declared : Declared) → offered outline views (Some above) name ≡ Some declared → OffersAlike script name declared
  unfolding OffersAlike
  offers_upward (itself {script}) name declared h = (declared, h, AreAlike-refl declared)
  offers_upward (below_parent {script} {parent} {above} p b) name declared h =
      let rec = offers_upward b name declared h in
      let whole = ap (λ l. option_map (λ (found : ViewFound). found.own.declared) (first_found views l 0 name)) (rooted script parent p) in
      let r = offers_by script parent name declared p (own_found (view_of views script) 0 name) refl rec in
      (r.0, whole ∙ r.1, r.2)

  -- what is found in any state from a script upward is alike what a script above offers; in a state with a name it has no bits
  pub found_alike : (script state name : ℕ) (found : ViewFound) → first_found views (lineage outline (Some script)) state name ≡ Some found → (above : ℕ) (declared : Declared) → StandsBelow outline script above → offered outline views (Some above) name ≡ Some declared → AreAlike found.own.declared declared
  unfolding OffersAlike
  found_alike script state name found h above declared below is_offered =
      let at_script = offers_upward below name declared is_offered in
      ⊎_elim
      (λ (empty : state ≡ 0).
      let e = ap (option_map (λ (f : ViewFound). f.own.declared)) (subst (λ s. first_found views (lineage outline (Some script)) s name ≡ Some found) empty h) in
      subst (λ d. AreAlike d declared) (same_Some _ _ (sym at_script.1 ∙ e)) at_script.2)
      (λ other.
      let place = found_above (length outline) outline views script state name found h in
      let own = replaces.other_states found.script state name found.own other place.own in
      let here = own.1 in
      let low = offers_upward place.below name here.0 here.1 in
      let same = same_Some _ _ (sym low.1 ∙ at_script.1) in
      AreAlike-trans found.own.declared here.0 declared here.2 (AreAlike-trans here.0 low.0 declared (AreAlike-sym low.0 here.0 low.2) (subst (λ d. AreAlike d declared) (sym same) at_script.2)))
      (cases_eq state 0)
