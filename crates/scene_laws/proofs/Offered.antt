-- What a verified set offers is what its outline tells.
use Rattle.std.proofs.Common.{◌≡◌, ℕ, zero, suc, Bool, true, false, cond, List, [], ◌∷◌, map, Option, Some, None, refl, sym, ap, subst, ◌∙◌}
use Rattle.std.specs.Prelude.{slice_get}
use Rattle.std.specs.List.{find}
use Rattle.std.specs.Option.{option_map, option_or}
use Rattle.std.specs.Str.{bytes_eq, str_eq_ignore_ascii_case}
use Rattle.std.specs.Cmp.Lexicographic.{bytes_decides}
use Rattle.std.proofs.lemmas.Bool.{false≢true}
use Rattle.std.proofs.lemmas.Option.{none-some, same_Some, slice_get-map}
use Rattle.core_tree.specs.declared.outline.OutlineFunction.{OutlineFunction}
use Rattle.core_tree.specs.declared.outline.OutlineScript.{OutlineScript}
use Rattle.core_tree.specs.Outlines.{FunctionShape, ScriptShape, function_shape, parents_of, script_shape}
use Rattle.papy_base.specs.Case.{folded}
use Rattle.papy_base.specs.Lineage.{Nearest, here, further, nowhere, parent_of}
use Rattle.code_meaning.specs.Code.{Function, Script, State}
use Rattle.code_meaning.specs.LookUp.{FoundMethod, first_method, method_at, method_in, method_of_script, method_of_state, numbered, one_on, states_in}
use Rattle.run_laws.specs.TypedCode.{MethodMeets}
use Rattle.scene_binder.specs.Members as members
use Rattle.scene_binder.specs.Names.{function_name}
use Rattle.script_meaning.specs.Requests.{functions_in}
use Rattle.script_meaning.specs.Values.{lineage}
use Rattle.pex_set.proofs.Positions.{falsely}
use Rattle.pex_verify.specs.Offering.{HavePlaces, KeepsTypes, TellsFunctions, empty_functions, shape_of}
use Rattle.scene_laws.specs.Offers.{NativesHavePlaces, Offers, shapes}

-- ---- names
same_either_way : (a b : List ℕ) → bytes_eq a b ≡ bytes_eq b a
same_either_way a b = by (bytes_eq a b) refl
  where
    by : (t : Bool) → bytes_eq a b ≡ t → t ≡ bytes_eq b a
    by true e = sym ((bytes_decides b a).1 (sym ((bytes_decides a b).0 e)))
    by false e =
        sym (falsely (bytes_eq b a) (λ h. false≢true (sym e ∙ (bytes_decides a b).1 (sym ((bytes_decides b a).0 h)))))

same_test : (name : List ℕ) (f : OutlineFunction) (g : Function) → function_shape f ≡ shape_of g → bytes_eq (folded name) (folded f.name) ≡ str_eq_ignore_ascii_case g.name name
same_test name f g e =
    ap (λ (s : FunctionShape). bytes_eq (folded name) (folded s.name)) e ∙ same_either_way (folded name) (folded g.name)

-- ---- the first function of a name
record IsCodeOf (f : OutlineFunction) (gs : List Function) (found : Option (ℕ × Function)) : Type 0 where
  number : ℕ
  function : Function
  is : found ≡ Some (number, function)
  same : function_shape f ≡ shape_of function

abbrev AreAlike : Option OutlineFunction → List Function → Option (ℕ × Function) → Type 0
AreAlike None gs found = found ≡ None
AreAlike (Some f) gs found = IsCodeOf f gs found

one_further : (o : Option OutlineFunction) (g : Function) (gs : List Function) (found : Option (ℕ × Function)) → AreAlike o gs found → AreAlike o (g ∷ gs) (one_on found)
one_further None g gs found h = ap one_on h
one_further (Some f) g gs found h =
    record { number = suc h.number; function = h.function; is = ap one_on h.is; same = h.same }

first_or : (b : Bool) (f : OutlineFunction) (g : Function) (gs : List Function) (rest : Option OutlineFunction) (found : Option (ℕ × Function)) → function_shape f ≡ shape_of g → AreAlike rest gs found
    → AreAlike (cond b (Some f) rest) (g ∷ gs) (cond b (Some (0, g)) (one_on found))
first_or true f g gs rest found same h = record { number = 0; function = g; is = refl; same = same }
first_or false f g gs rest found same h = one_further rest g gs found h

first_alike : (name : List ℕ) (fs : List OutlineFunction) (gs : List Function) → map function_shape fs ≡ map shape_of gs → AreAlike (find (λ f. bytes_eq (folded name) (folded (function_name f))) fs) gs (numbered (λ (g : Function). str_eq_ignore_ascii_case g.name name) gs)
first_alike name [] [] e = refl
first_alike name [] (g ∷ gs) e = absurd (cc)
first_alike name (f ∷ fs) [] e = absurd (cc)
first_alike name (f ∷ fs) (g ∷ gs) e =
    let same : function_shape f ≡ shape_of g = cc in
    let rest : map function_shape fs ≡ map shape_of gs = cc in
    subst (λ b. AreAlike (find (λ f. bytes_eq (folded name) (folded (function_name f))) (f ∷ fs)) (g ∷ gs) (cond b (Some (0, g)) (one_on (numbered (λ (g : Function). str_eq_ignore_ascii_case g.name name) gs)))) (same_test name f g same)
    (first_or (bytes_eq (folded name) (folded f.name)) f g gs (find (λ f. bytes_eq (folded name) (folded (function_name f))) fs) (numbered (λ (g : Function). str_eq_ignore_ascii_case g.name name) gs) same (first_alike name fs gs rest))

-- ---- the first empty state
abbrev IsEmptyState : Option (ℕ × State) → List Function → Type 0
IsEmptyState None gs = gs ≡ []
IsEmptyState (Some (number, state)) gs = gs ≡ state.functions

state_further : (found : Option (ℕ × State)) (gs : List Function) → IsEmptyState found gs → IsEmptyState (one_on found) gs
state_further None gs h = h
state_further (Some (number, state)) gs h = h

state_or : (b : Bool) (state : State) (found : Option (ℕ × State)) (gs : List Function) → IsEmptyState found gs → IsEmptyState (cond b (Some (0, state)) (one_on found)) (cond b state.functions gs)
state_or true state found gs h = refl
state_or false state found gs h = state_further found gs h

empty_state : (states : List State) → IsEmptyState (numbered (λ (s : State). str_eq_ignore_ascii_case s.name []) states) (empty_functions states)
empty_state [] = refl
empty_state (state ∷ rest) =
    state_or (str_eq_ignore_ascii_case state.name []) state (numbered (λ (s : State). str_eq_ignore_ascii_case s.name []) rest) (empty_functions rest) (empty_state rest)

in_state : (script : ℕ) (name : List ℕ) (found : Option (ℕ × State)) (gs : List Function) → IsEmptyState found gs
    → (state : ℕ) × (method_of_state script name found ≡ method_at script state (numbered (λ (g : Function). str_eq_ignore_ascii_case g.name name) gs))
in_state script name None gs h =
    (0, ap (λ (l : List Function). method_at script 0 (numbered (λ (g : Function). str_eq_ignore_ascii_case g.name name) l)) (sym h))
in_state script name (Some (number, state)) gs h =
    (number, ap (λ (l : List Function). method_at script number (numbered (λ (g : Function). str_eq_ignore_ascii_case g.name name) l)) (sym h))

-- a method is found, and tells what this function of an outline does
record Finds (f : OutlineFunction) (found : Option FoundMethod) : Type 0 where
  method : FoundMethod
  is : found ≡ Some method
  same : function_shape f ≡ shape_of method.function

abbrev FindsAlike : Option OutlineFunction → Option FoundMethod → Type 0
FindsAlike None found = found ≡ None
FindsAlike (Some f) found = Finds f found

method_alike : (o : Option OutlineFunction) (script state : ℕ) (gs : List Function) (found : Option (ℕ × Function)) → AreAlike o gs found → FindsAlike o (method_at script state found)
method_alike None script state gs found h = ap (method_at script state) h
method_alike (Some f) script state gs found h =
    record { method = record { script = script; state = state; number = h.number; function = h.function }; is = ap (method_at script state) h.is; same = h.same }

-- ---- scripts
functions_same : (outlines : List OutlineScript) (n : ℕ) → functions_in (slice_get (shapes outlines) n) ≡ map function_shape (members.functions_in (slice_get outlines n))
functions_same outlines n = ap functions_in (slice_get-map script_shape outlines n) ∙ by (slice_get outlines n)
  where
    by : (o : Option OutlineScript) → functions_in (option_map script_shape o) ≡ map function_shape (members.functions_in o)
    by None = refl
    by (Some o) = refl

shape_there : (outlines : List OutlineScript) (n : ℕ) (o : OutlineScript) → slice_get outlines n ≡ Some o → slice_get (shapes outlines) n ≡ Some (script_shape o)
shape_there outlines n o e = slice_get-map script_shape outlines n ∙ ap (option_map script_shape) e

parent_there : (os : List OutlineScript) (n p : ℕ) → parent_of (parents_of os) n ≡ Some p → (script : OutlineScript) × (slice_get os n ≡ Some script) × (script.parent ≡ Some p)
parent_there [] n p h = absurd (cc)
parent_there (s ∷ os) zero p h = (s, refl, h)
parent_there (s ∷ os) (suc n) p h = parent_there os n p h

module _ (outlines : List OutlineScript) (scripts : List Script) (tells : TellsFunctions (shapes outlines) scripts) (above : (script : ℕ) (shape : ScriptShape) → slice_get (shapes outlines) script ≡ Some shape → lineage (shapes outlines) (Some script) ≡ script ∷ lineage (shapes outlines) shape.parent) (name : List ℕ) where
  abbrev own : ℕ → Option OutlineFunction
  own n = members.own_function outlines (folded name) n

  abbrev upward_from : List ℕ → Option FoundMethod
  upward_from numbers = first_method scripts numbers [] name

  own_alike : (n : ℕ) → FindsAlike (own n) (method_of_script scripts [] name n)
  own_alike n =
      let states = states_in (slice_get scripts n) in
      let place = in_state n name (numbered (λ (s : State). str_eq_ignore_ascii_case s.name []) states) (empty_functions states) (empty_state states) in
      let alike = first_alike name (members.functions_in (slice_get outlines n)) (empty_functions states) (sym (functions_same outlines n) ∙ tells n) in
      subst (FindsAlike (own n)) (sym place.1) (method_alike (own n) n place.0 (empty_functions states) (numbered (λ (g : Function). str_eq_ignore_ascii_case g.name name) (empty_functions states)) alike)

  own_finds : (n : ℕ) (f : OutlineFunction) → own n ≡ Some f → Finds f (method_of_script scripts [] name n)
  own_finds n f e = subst (λ o. FindsAlike o (method_of_script scripts [] name n)) e (own_alike n)

  own_lacks : (n : ℕ) → own n ≡ None → method_of_script scripts [] name n ≡ None
  own_lacks n e = subst (λ o. FindsAlike o (method_of_script scripts [] name n)) e (own_alike n)

  -- ---- upward
  here_found : (n : ℕ) (f : OutlineFunction) → own n ≡ Some f → (o : Option OutlineScript) → slice_get outlines n ≡ o → Finds f (upward_from (lineage (shapes outlines) (Some n)))
  here_found n f e None stands =
      let none : own n ≡ None = ap (λ o. find (λ g. bytes_eq (folded name) (folded (function_name g))) (members.functions_in o)) stands in
      absurd (none-some f (sym none ∙ e))
  here_found n f e (Some script) stands =
      let first = own_finds n f e in
      subst (λ l. Finds f (upward_from l)) (sym (above n (script_shape script) (shape_there outlines n script stands)))
      (record { method = first.method; is = ap (λ m. option_or m (upward_from (lineage (shapes outlines) script.parent))) first.is; same = first.same })

  further_found : (n p : ℕ) (f : OutlineFunction) → own n ≡ None → parent_of (parents_of outlines) n ≡ Some p → Finds f (upward_from (lineage (shapes outlines) (Some p))) → Finds f (upward_from (lineage (shapes outlines) (Some n)))
  further_found n p f none is rest =
      let there = parent_there outlines n p is in
      let same : upward_from (n ∷ lineage (shapes outlines) there.0.parent) ≡ upward_from (lineage (shapes outlines) (Some p)) =
      ap (λ m. option_or m (upward_from (lineage (shapes outlines) there.0.parent))) (own_lacks n none) ∙ ap (λ q. upward_from (lineage (shapes outlines) q)) there.2 in
      subst (λ l. Finds f (upward_from l)) (sym (above n (script_shape there.0) (shape_there outlines n there.0 there.1)))
      (record { method = rest.method; is = same ∙ rest.is; same = rest.same })

  nearest_found : {n : ℕ} {found : Option (ℕ × OutlineFunction)} → Nearest {X = OutlineFunction} (parents_of outlines) (members.own_function outlines (folded name)) n found → (owner : ℕ) (f : OutlineFunction) → found ≡ Some (owner, f) → Finds f (upward_from (lineage (shapes outlines) (Some n)))
  nearest_found (here n x is) owner f e =
      let same : x ≡ f = ap (λ (p : ℕ × OutlineFunction). p.1) (same_Some {A = ℕ × OutlineFunction} (n, x) (owner, f) e) in
      here_found n f (is ∙ ap (λ z. Some z) same) (slice_get outlines n) refl
  nearest_found (further n p found none is more) owner f e = further_found n p f none is (nearest_found more owner f e)
  nearest_found (nowhere n none is) owner f e = absurd (none-some {A = ℕ × OutlineFunction} (owner, f) e)

pub offers : (outlines : List OutlineScript) (scripts : List Script) → TellsFunctions (shapes outlines) scripts → KeepsTypes (shapes outlines) scripts
    → ((script : ℕ) (shape : ScriptShape) → slice_get (shapes outlines) script ≡ Some shape → lineage (shapes outlines) (Some script) ≡ script ∷ lineage (shapes outlines) shape.parent)
    → Offers outlines scripts
offers outlines scripts tells keeps above script name function has state =
    let found = nearest_found outlines scripts tells above name has.nearest has.owner function refl in
    subst (λ (s : FunctionShape). MethodMeets (shapes outlines) s.is_global s.parameters s.result (method_in scripts (lineage (shapes outlines) (Some script)) state name)) (sym found.same) (keeps script name found.method found.is state)

pub natives_have_places : (outlines : List OutlineScript) → HavePlaces (shapes outlines) → NativesHavePlaces outlines
natives_have_places outlines have script place function e native =
    have script place (function_shape function) (ap (λ l. slice_get l place) (functions_same outlines script) ∙ slice_get-map function_shape (members.functions_in (slice_get outlines script)) place ∙ ap (option_map function_shape) e) native
