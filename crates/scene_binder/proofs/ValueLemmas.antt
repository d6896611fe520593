-- Values and arguments that fit their types one by one, and the rules that they break.
use Rattle.std.proofs.Common.{ℕ, suc, ◌≡◌, ◌<◌, ◌≤◌, ◌+◌, List, [], ◌∷◌, length, get_or, map, drop, Bool, true, false, not, ◌&&◌, Option, Some, None, is_none, refl, sym, ap, subst, ◌∙◌}
use Rattle.std.proofs.lemmas.List.{drop_all, drop_more, get_or-map}
use Rattle.core_tree.specs.declared.core_type.CoreType.{CoreType}
use Rattle.core_tree.specs.declared.outline.OutlineFunction.{OutlineFunction}
use Rattle.core_tree.specs.declared.outline.OutlineScript.{OutlineScript}
use Rattle.core_tree.specs.declared.scene_tree.SceneValue.{SceneValue}
use Rattle.scene_reader.specs.declared.fault.SceneFault.{SceneFault}
use Rattle.scene_reader.specs.declared.fault.SceneFault.TheVariants as faults
use Rattle.scene_reader.specs.declared.fault.SceneRule.{SceneRule}
use Rattle.scene_reader.specs.declared.fault.SceneRule.TheVariants.{Arguments, NoFunction}
use Rattle.scene_binder.specs.Faults.{IsFirstBroken, arguments_break, broken, value_fits, values_fit}

-- two lists with the same things at each place, at one place
pub same_at : {X Y Z : Type 0} (f : X → Z) (g : Y → Z) (xs : List X) (ys : List Y) (n : ℕ) (x : X) (y : Y) → map f xs ≡ map g ys → n < length xs → n < length ys → x ≡ get_or xs n x → y ≡ get_or ys n y → f x ≡ g y
same_at f g xs ys n x y same first second is also =
    ap f is ∙ (sym (get_or-map f xs n x (f x) first) ∙ (ap (λ zs. get_or zs n (f x)) same ∙ (get_or-map g ys n y (f x) second ∙ sym (ap g also))))

fault_before : (rule : SceneRule) (here rest : Bool) (fault : SceneFault) → IsFirstBroken fault (broken rule (not here)) → IsFirstBroken fault (broken rule (not (here && rest)))
fault_before rule true rest (faults.Broken other) h = absurd h
fault_before rule true rest faults.OutOfMemory h = tt
fault_before rule false rest fault h = h

fits_here : (rule : SceneRule) (here rest : Bool) → broken rule (not here) ≡ [] → here && rest ≡ rest
fits_here rule true rest h = refl
fits_here rule false rest h = cc

pub and_false : (b : Bool) → b && false ≡ false
and_false false = refl
and_false true = refl

module _ (scripts : List OutlineScript) (script_of : List ℕ → Option ℕ) where
  -- a call of no function
  pub no_function : (function : Option OutlineFunction) (arguments : List SceneValue) (fault : SceneFault) → IsFirstBroken fault (broken NoFunction (is_none function)) → IsFirstBroken fault (arguments_break scripts script_of function arguments)
  no_function None arguments fault h = h
  no_function (Some function) arguments (faults.Broken rule) h = absurd h
  no_function (Some function) arguments faults.OutOfMemory h = tt

  -- another number of arguments
  pub other_count : (ks : List CoreType) (vs : List SceneValue) → (length vs ≡ length ks → ⊥) → values_fit scripts script_of ks vs ≡ false
  other_count [] [] other = absurd (other refl)
  other_count [] (v ∷ vs) other = refl
  other_count (k ∷ ks) [] other = refl
  other_count (k ∷ ks) (v ∷ vs) other =
      ap (λ b. value_fits scripts script_of k v && b) (other_count ks vs (λ same. other (ap suc same))) ∙ and_false (value_fits scripts script_of k v)

  pub unfit_count : (ks : List CoreType) (vs : List SceneValue) (fault : SceneFault) → (length vs ≡ length ks → ⊥) → fault ≡ faults.Broken Arguments → IsFirstBroken fault (broken Arguments (not (values_fit scripts script_of ks vs)))
  unfit_count ks vs fault other is =
      subst (λ f. IsFirstBroken f (broken Arguments (not (values_fit scripts script_of ks vs)))) (sym is) (subst (λ b. IsFirstBroken (faults.Broken Arguments) (broken Arguments (not b))) (sym (other_count ks vs other)) refl)

  module _ (ks : List CoreType) (vs : List SceneValue) (n : ℕ) where
    abbrev pub AreFit : Type 0
    AreFit = values_fit scripts script_of ks vs ≡ values_fit scripts script_of (drop n ks) (drop n vs)

    fit_step : (k : CoreType) (v : SceneValue) → n < length ks → n < length vs → v ≡ get_or vs n v → AreFit → values_fit scripts script_of ks vs ≡ (value_fits scripts script_of (get_or ks n k) v && values_fit scripts script_of (drop (n + 1) ks) (drop (n + 1) vs))
    fit_step k v first second also fit =
        let types : drop n ks ≡ get_or ks n k ∷ drop (n + 1) ks = drop_more ks n k first in
        let values : drop n vs ≡ v ∷ drop (n + 1) vs = drop_more vs n v second ∙ ap (λ x. x ∷ drop (n + 1) vs) (sym also) in
        fit ∙ (ap (λ xs. values_fit scripts script_of xs (drop n vs)) types ∙ ap (λ xs. values_fit scripts script_of (get_or ks n k ∷ drop (n + 1) ks) xs) values)

    -- the next value isn't of its type, or is
    pub unfit_here : (k : CoreType) (v : SceneValue) (fault : SceneFault) → n < length ks → n < length vs → v ≡ get_or vs n v → AreFit → IsFirstBroken fault (broken Arguments (not (value_fits scripts script_of (get_or ks n k) v))) → IsFirstBroken fault (broken Arguments (not (values_fit scripts script_of ks vs)))
    unfit_here k v fault first second also fit h =
        subst (λ b. IsFirstBroken fault (broken Arguments (not b))) (sym (fit_step k v first second also fit)) (fault_before Arguments (value_fits scripts script_of (get_or ks n k) v) _ fault h)

    pub fit_more : (k : CoreType) (v : SceneValue) → n < length ks → n < length vs → v ≡ get_or vs n v → AreFit → broken Arguments (not (value_fits scripts script_of (get_or ks n k) v)) ≡ [] → values_fit scripts script_of ks vs ≡ values_fit scripts script_of (drop (n + 1) ks) (drop (n + 1) vs)
    fit_more k v first second also fit h = fit_step k v first second also fit ∙ fits_here Arguments (value_fits scripts script_of (get_or ks n k) v) _ h

    pub fit_all : length ks ≤ n → length vs ≤ n → AreFit → broken Arguments (not (values_fit scripts script_of ks vs)) ≡ []
    fit_all first second fit =
        ap (λ b. broken Arguments (not b)) (fit ∙ (ap (λ xs. values_fit scripts script_of xs (drop n vs)) (drop_all n ks first) ∙ ap (values_fit scripts script_of []) (drop_all n vs second)))
