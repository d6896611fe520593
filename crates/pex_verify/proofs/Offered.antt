-- What the empty states of scripts offer by numbers is what the scripts offer by texts.
use Rattle.std.proofs.Common.{◌≡◌, ℕ, true, false, List, [], ◌∷◌, length, Option, None, Some, refl, sym, ap, subst, ◌∙◌, ◌⊎◌, ⊎_elim, inl, inr, map}
use Rattle.std.specs.Option.{option_or, option_map}
use Rattle.std.proofs.lemmas.Bool.{both_ways, cases_eq}
use Rattle.std.proofs.lemmas.Option.{none-some, same_Some}
use Rattle.core_tree.specs.Outlines.{ScriptShape}
use Rattle.core_tree.specs.declared.core_type.CoreType.{CoreType}
use Rattle.run_laws.specs.Fits.{is_native_at}
use Rattle.script_meaning.specs.Requests.{result_of}
use Rattle.script_meaning.specs.Values.{lineage}
use Rattle.code_meaning.specs.Code.{Script}
use Rattle.code_meaning.specs.LookUp.{FoundMethod, first_method, method_in, native_at}
use Rattle.run_laws.specs.TypedCode.{MethodMeets}
use Rattle.pex_set.specs.Names.{number_in}
use Rattle.pex_verify.specs.declared.scripts.Signature.{Signature}
use Rattle.pex_verify.specs.declared.value_type.ValueType.TheVariants.{Of}
use Rattle.pex_verify.specs.Agreement.{IsOffered}
use Rattle.pex_verify.specs.Meanings.{Meanings, of_result, result_meaning, value_meaning}
use Rattle.pex_verify.specs.Signatures.{Declared, declared_of, AreAlike, has_bit}
use Rattle.pex_verify.proofs.Views.{StateView, view_of, own_found, ViewFound, first_found, offered, AreViewed, Replaces, IsOutlined, StandsBelow, itself}
use Rattle.pex_verify.proofs.LookUps.{IsMethodOf, AreMethods, first_by_numbers, first_of_no_name, first_of_no_state}
use Rattle.pex_verify.proofs.Offers.{IsFoundAbove, found_above, below_from_child, OffersAlike, offers_upward, found_alike}

same_kinds : (xs ys : List CoreType) → map (λ kind. Of kind) xs ≡ map (λ kind. Of kind) ys → xs ≡ ys
same_kinds [] [] h = refl
same_kinds [] (y ∷ ys) h = absurd (cc)
same_kinds (x ∷ xs) [] h = absurd (cc)
same_kinds (x ∷ xs) (y ∷ ys) h =
    let first : x ≡ y = cc in
    let more : map (λ kind. Of kind) xs ≡ map (λ kind. Of kind) ys = cc in
    let rest = same_kinds xs ys more in
    cc

same_result : (a b : Option CoreType) → of_result a ≡ of_result b → a ≡ b
same_result None None h = refl
same_result None (Some y) h = absurd (cc)
same_result (Some x) None h = absurd (cc)
same_result (Some x) (Some y) h = cc

no_bits : (bits : ℕ) → bits ≡ 0 → has_bit bits 2 ≡ false
no_bits bits e = ap (λ b. has_bit b 2) e

module _ (types : Meanings) (names : List (List ℕ)) (outline : List ScriptShape) (scripts : List Script) (views : List (List StateView)) (viewed : AreViewed types names outline scripts views) (replaces : Replaces outline views) (outlined : IsOutlined types outline views) where
  -- a method that is found has the types of what it is alike
  module _ (declared : Declared) (parameters : List CoreType) (result : Option CoreType) (parameters_are : map (λ kind. Of kind) parameters ≡ map (value_meaning types) declared.parameters) (result_is : of_result result ≡ result_meaning types declared.answer) where
    native_meets : (script state name : ℕ) (found : ViewFound) (method : FoundMethod) → IsFoundAbove outline views script state name found → IsMethodOf types names found method → AreAlike found.own.declared declared → method.function.is_native ≡ true → (is_native_at outline (native_at method) ≡ true) × (result_of outline (native_at method) ≡ result)
    native_meets script state name found method above of_method alike native =
        let bit : has_bit found.own.declared.bits 2 ≡ true = sym of_method.declares.is_native ∙ native in
        ⊎_elim
        (λ (empty : state ≡ 0).
        let told = outlined found.script name found.own (subst (λ s. own_found (view_of views found.script) s name ≡ Some found.own) empty above.own) in
        let place : record { script = found.script; place = found.own.number } ≡ native_at method = λ i. record { script = sym of_method.script i; place = sym of_method.number i } in
        (subst (λ p. is_native_at outline p ≡ true) place (told.0 ∙ bit), same_result _ result (subst (λ p. of_result (result_of outline p) ≡ result_meaning types found.own.declared.answer) place told.1 ∙ ap (result_meaning types) alike.answer ∙ sym result_is)))
        (λ other. absurd (both_ways _ (no_bits found.own.declared.bits (replaces.other_states found.script state name found.own other above.own).0) bit))
        (cases_eq state 0)

    method_meets : (script state name : ℕ) (found : ViewFound) (method : FoundMethod) → first_found views (lineage outline (Some script)) state name ≡ Some found → IsMethodOf types names found method → AreAlike found.own.declared declared → MethodMeets outline (has_bit declared.bits 1) parameters result (Some method)
    method_meets script state name found method h of_method alike =
        let d = of_method.declares in
        (same_kinds method.function.parameters parameters (d.parameters ∙ ap (map (value_meaning types)) alike.parameters ∙ sym parameters_are), same_result method.function.result result (d.result ∙ ap (result_meaning types) alike.answer ∙ sym result_is), d.is_global ∙ ap (λ bits. has_bit bits 1) alike.bits, native_meets script state name found method (found_above (length outline) outline views script state name found h) of_method alike)

    module _ (above name : ℕ) (is_offered : offered outline views (Some above) name ≡ Some declared) where
      Meets : Option FoundMethod → Type 0
      Meets method = MethodMeets outline (has_bit declared.bits 1) parameters result method

      none_or_meets : (script state : ℕ) → StandsBelow outline script above → (a : Option ViewFound) (b : Option FoundMethod) → first_found views (lineage outline (Some script)) state name ≡ a → AreMethods types names a b → (b ≡ None) ⊎ Meets b
      unfolding Meets
      none_or_meets script state below None None e h = inl refl
      none_or_meets script state below None (Some method) e h = absurd h
      none_or_meets script state below (Some found) None e h = absurd h
      none_or_meets script state below (Some found) (Some method) e h =
          inr (method_meets script state name found method e h (found_alike outline views viewed.rooted replaces script state name found e above declared below is_offered))

      -- what is offered is there
      some_meets : (script : ℕ) → StandsBelow outline script above → (a : Option ViewFound) (b : Option FoundMethod) → first_found views (lineage outline (Some script)) 0 name ≡ a → AreMethods types names a b → Meets b
      unfolding Meets OffersAlike
      some_meets script below None b e h =
          let low = offers_upward outline views viewed.rooted replaces below name declared is_offered in
          absurd (none-some low.0 (ap (option_map (λ (f : ViewFound). f.own.declared)) (sym e) ∙ low.1))
      some_meets script below (Some found) None e h = absurd h
      some_meets script below (Some found) (Some method) e h =
          method_meets script 0 name found method e h (found_alike outline views viewed.rooted replaces script 0 name found e above declared below is_offered)

      or_meets : (b c : Option FoundMethod) → (b ≡ None) ⊎ Meets b → Meets c → Meets (option_or b c)
      or_meets None c h k = k
      or_meets (Some method) c h k = ⊎_elim (λ e. absurd (none-some method (sym e))) (λ m. m) h

      module _ (text : List ℕ) (named : number_in names text ≡ Some name) where
        empty_meets : (script : ℕ) → StandsBelow outline script above → Meets (first_method scripts (lineage outline (Some script)) [] text)
        empty_meets script below =
            some_meets script below (first_found views (lineage outline (Some script)) 0 name) (first_method scripts (lineage outline (Some script)) [] text) refl (first_by_numbers types names scripts views viewed.states (lineage outline (Some script)) 0 name [] text viewed.empty named)

        state_meets : (script : ℕ) → StandsBelow outline script above → (state : List ℕ) (number : Option ℕ) → number_in names state ≡ number → (first_method scripts (lineage outline (Some script)) state text ≡ None) ⊎ Meets (first_method scripts (lineage outline (Some script)) state text)
        state_meets script below state None e =
            inl (first_of_no_state types names scripts views viewed.states (lineage outline (Some script)) state text e)
        state_meets script below state (Some number) e =
            none_or_meets script number below (first_found views (lineage outline (Some script)) number name) (first_method scripts (lineage outline (Some script)) state text) refl (first_by_numbers types names scripts views viewed.states (lineage outline (Some script)) number name state text e named)

        instance_meets : (script : ℕ) → StandsBelow outline script above → (state : List ℕ) → Meets (method_in scripts (lineage outline (Some script)) state text)
        instance_meets script below state =
            or_meets (first_method scripts (lineage outline (Some script)) state text) (first_method scripts (lineage outline (Some script)) [] text) (state_meets script below state (number_in names state) refl) (empty_meets script below)

  -- the types of the method that is offered
  record HasTypes (declared : Declared) : Type 0 where
    parameters : List CoreType
    result : Option CoreType
    parameters_are : map (λ kind. Of kind) parameters ≡ map (value_meaning types) declared.parameters
    result_is : of_result result ≡ result_meaning types declared.answer

  types_by : (declared : Declared) (a : Option ViewFound) (b : Option FoundMethod) → option_map (λ (f : ViewFound). f.own.declared) a ≡ Some declared → AreMethods types names a b → HasTypes declared
  types_by declared None b e h = absurd (none-some declared e)
  types_by declared (Some found) None e h = absurd h
  types_by declared (Some found) (Some method) e h =
      let same = same_Some found.own.declared declared e in
      record {
        parameters = method.function.parameters;
        result = method.function.result;
        parameters_are = h.declares.parameters ∙ ap (λ (d : Declared). map (value_meaning types) d.parameters) same;
        result_is = h.declares.result ∙ ap (λ (d : Declared). result_meaning types d.answer) same;
      }

  pub IsOffered-from_views : (script name : ℕ) (text : List ℕ) (signature : Signature) → number_in names text ≡ Some name → offered outline views (Some script) name ≡ Some (declared_of signature) → IsOffered types outline scripts script text signature
  unfolding Meets
  IsOffered-from_views script name text signature named is_offered =
      let declared = declared_of signature in
      let t = types_by declared (first_found views (lineage outline (Some script)) 0 name) (first_method scripts (lineage outline (Some script)) [] text) is_offered (first_by_numbers types names scripts views viewed.states (lineage outline (Some script)) 0 name [] text viewed.empty named) in
      record {
        parameters = t.parameters;
        result = t.result;
        parameters_are = t.parameters_are;
        result_is = t.result_is;
        on_instances = λ own state child. instance_meets declared t.parameters t.result t.parameters_are t.result_is script name is_offered text named own (below_from_child outline own script child) state;
        on_scripts = empty_meets declared t.parameters t.result t.parameters_are t.result_is script name is_offered text named script itself;
      }

  -- what is found in an empty state is found with the same types in every state
  module _ (script : ℕ) (text : List ℕ) (method : FoundMethod) (is : first_method scripts (lineage outline (Some script)) [] text ≡ Some method) (state : List ℕ) where
    KeepsTypes : Type 0
    KeepsTypes =
        MethodMeets outline method.function.is_global method.function.parameters method.function.result (method_in scripts (lineage outline (Some script)) state text)

    keeps_by_view : (name : ℕ) → number_in names text ≡ Some name → (a : Option ViewFound) → first_found views (lineage outline (Some script)) 0 name ≡ a → AreMethods types names a (Some method) → KeepsTypes
    unfolding KeepsTypes Meets
    keeps_by_view name named None e h = absurd h
    keeps_by_view name named (Some found) e h =
        let d = h.declares in
        subst (λ b. MethodMeets outline b method.function.parameters method.function.result (method_in scripts (lineage outline (Some script)) state text)) (sym d.is_global) (instance_meets found.own.declared method.function.parameters method.function.result d.parameters d.result script name (ap (option_map (λ (f : ViewFound). f.own.declared)) e) text named script itself state)

    keeps_by_number : (number : Option ℕ) → number_in names text ≡ number → KeepsTypes
    keeps_by_number None named =
        absurd (none-some method (sym (first_of_no_name types names scripts views viewed.states (lineage outline (Some script)) 0 [] text viewed.empty named) ∙ is))
    keeps_by_number (Some name) named =
        keeps_by_view name named (first_found views (lineage outline (Some script)) 0 name) refl (subst (AreMethods types names (first_found views (lineage outline (Some script)) 0 name)) is (first_by_numbers types names scripts views viewed.states (lineage outline (Some script)) 0 name [] text viewed.empty named))

    pub keeps_types : MethodMeets outline method.function.is_global method.function.parameters method.function.result (method_in scripts (lineage outline (Some script)) state text)
    unfolding KeepsTypes
    keeps_types = keeps_by_number (number_in names text) refl
