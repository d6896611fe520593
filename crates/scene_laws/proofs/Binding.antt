-- From a bound scene to one that fits.
use Rattle.std.proofs.Common.{◌≡◌, ℕ, zero, suc, ◌+◌, ◌<◌, ◌≤◌, Bool, true, false, cond, ◌&&◌, ◌||◌, List, [], ◌∷◌, ◌++◌, length, map, Option, Some, None, refl, sym, ap, subst, ◌∙◌, arith}
use Rattle.std.specs.Prelude.{slice_get, slice_index_or}
use Rattle.std.specs.List.{All, AllByRecursion, list_any}
use Rattle.std.proofs.Math.Dec.{eqb, ltb}
use Rattle.std.proofs.lemmas.List.Folds.{list_any-append}
use Rattle.std.proofs.lemmas.Bool.{eqb-true}
use Rattle.std.proofs.lemmas.Bool.Decides.{nat_tests}
use Rattle.std.proofs.lemmas.List.{length-map}
use Rattle.core_tree.specs.declared.core_type.CoreType.{CoreType}
use Rattle.core_tree.specs.declared.core_type.CoreType.TheVariants as kinds
use Rattle.core_tree.specs.declared.expression.FunctionPlace.{FunctionPlace}
use Rattle.core_tree.specs.declared.outline.OutlineFunction.{OutlineFunction}
use Rattle.core_tree.specs.declared.outline.OutlineScript.{OutlineScript}
use Rattle.core_tree.specs.declared.scene.BoundCall.{BoundCall}
use Rattle.core_tree.specs.declared.scene.BoundNative.{BoundNative}
use Rattle.core_tree.specs.declared.scene.Scene.{Scene}
use Rattle.core_tree.specs.declared.scene_tree.Binding.{Binding}
use Rattle.core_tree.specs.declared.scene_tree.Binding.TheVariants as bindings
use Rattle.core_tree.specs.declared.value.Value.{Value}
use Rattle.core_tree.specs.declared.value.Value.TheVariants as values
use Rattle.core_tree.specs.Outlines.{function_shape, parents_of, script_shape}
use Rattle.core_tree.specs.Scenes.{call_shape, instance_shape, scene_shape}
use Rattle.papy_base.specs.Lineage.{StandsAbove, itself, further, parent_of}
use Rattle.code_meaning.specs.Code.{Script}
use Rattle.code_meaning.specs.LookUp.{method_in}
use Rattle.run_laws.specs.TypedCode.{MethodMeets, code_types}
use Rattle.scene_binder.specs.Bound.{AreBoundNatives, AreOfTypes, IsBound, IsBoundNative, place_of, IsBoundCall, IsBoundEntry, IsBoundInstance, IsInstanceOf, IsOfType, script_of, scripts_of}
use Rattle.scene_binder.specs.Members as members
use Rattle.scene_binder.specs.Natives.{AllowsBinding, IsFunctionAt, IsReply, native_place_here, native_places_from, native_places_in, native_places_of}
use Rattle.script_meaning.specs.Requests.{binding_in, functions_in, result_in, result_of}
use Rattle.script_meaning.specs.First.{first_instance}
use Rattle.run_laws.specs.Fits.{BindingFits, IsOfDevice, NativesFit, is_native_at, is_native_in, HasType, HaveTypes, IsOfScript, Known, script_in, typed}
use Rattle.run_laws.specs.Keeps.{InstanceFits, IsVariable, SetFits, StartFits, first_known}
use Rattle.script_meaning.specs.Values.{is_child, lineage, parent_in, upward}
use Rattle.script_meaning.specs.World.{title}
use Rattle.scene_laws.specs.Offers.{Offers, OutlineFits, shapes}

-- ---- lists
get_at : {X : Type 0} (xs : List X) (k : ℕ) (x d : X) → slice_get xs k ≡ Some x → (k < length xs) × (slice_index_or xs k d ≡ x)
get_at [] k x d e = absurd (cc)
get_at (y ∷ ys) zero x d e = (omega arith, cc)
get_at (y ∷ ys) (suc k) x d e = let r = get_at ys k x d e in (omega (arith, r.0), r.1)

get_map : {X Y : Type 0} (f : X → Y) (xs : List X) (k : ℕ) (y : Y) → slice_get (map f xs) k ≡ Some y → (x : X) × (slice_get xs k ≡ Some x) × (f x ≡ y)
get_map f [] k y e = absurd (cc)
get_map f (x ∷ xs) zero y e = (x, refl, cc)
get_map f (x ∷ xs) (suc k) y e = get_map f xs k y e

map_get : {X Y : Type 0} (f : X → Y) (xs : List X) (k : ℕ) (x : X) → slice_get xs k ≡ Some x → slice_get (map f xs) k ≡ Some (f x)
map_get f [] k x e = absurd (cc)
map_get f (y ∷ xs) zero x e = let same : y ≡ x = cc in ap (λ z. Some (f z)) same
map_get f (y ∷ xs) (suc k) x e = map_get f xs k x e

mapped : {X Y : Type 0} (P : X → Type 0) (Q : Y → Type 0) (f : X → Y) (xs : List X) → All P xs → ((x : X) → P x → Q (f x)) → AllByRecursion Q (map f xs)
mapped P Q f [] a g = tt
mapped P Q f (x ∷ xs) a g =
    (g x (a 0 x (omega arith)), mapped P Q f xs (λ k d l. a (suc k) d (omega arith)) g)

each : {X : Type 0} (P : X → Type 0) (Q : X → Type 0) (xs : List X) → All P xs → ((x : X) → P x → Q x) → AllByRecursion Q xs
each P Q [] a g = tt
each P Q (x ∷ xs) a g = (g x (a 0 x (omega arith)), each P Q xs (λ k d l. a (suc k) d (omega arith)) g)

self_equal : (k : ℕ) → eqb k k ≡ true
self_equal k = grind (arith, nat_tests)

parent_there : (os : List OutlineScript) (n p : ℕ) → parent_of (parents_of os) n ≡ Some p → (script : OutlineScript) × (slice_get os n ≡ Some script) × (script.parent ≡ Some p)
parent_there [] n p h = absurd (cc)
parent_there (s ∷ os) zero p h = (s, refl, h)
parent_there (s ∷ os) (suc n) p h = parent_there os n p h

reply_fits : (outcome : Option CoreType) → IsReply outcome → IsOfDevice outcome
reply_fits None h = tt
reply_fits (Some kinds.Int) h = tt
reply_fits (Some kinds.Bool) h = tt
reply_fits (Some kinds.Text) h = absurd h
reply_fits (Some (kinds.Script s)) h = absurd h
reply_fits (Some kinds.IntArray) h = absurd h
reply_fits (Some kinds.BoolArray) h = absurd h
reply_fits (Some kinds.TextArray) h = absurd h
reply_fits (Some (kinds.ScriptArray s)) h = absurd h

or_with : (t : Bool) → t || true ≡ true
or_with true = refl
or_with false = refl

any_left : {X : Type 0} (test : X → Bool) (xs ys : List X) → list_any test xs ≡ true → list_any test (xs ++ ys) ≡ true
any_left test xs ys h = list_any-append test xs ys ∙ ap (λ t. t || list_any test ys) h

any_right : {X : Type 0} (test : X → Bool) (xs ys : List X) → list_any test ys ≡ true → list_any test (xs ++ ys) ≡ true
any_right test xs ys h = list_any-append test xs ys ∙ (ap (λ t. list_any test xs || t) h ∙ or_with (list_any test xs))

less_true : (a b : ℕ) → a < b → ltb a b ≡ true
less_true a b h = grind (arith, nat_tests)

here_is : (script n : ℕ) (g : OutlineFunction) → g.is_native ≡ true → n < 65536 → native_place_here script n g ≡ (script, n) ∷ []
here_is script n g native small =
    ap (λ t. cond (t && ltb n 65536) ((script, n) ∷ []) []) native ∙ ap (λ t. cond t ((script, n) ∷ []) []) (less_true n 65536 small)

both_equal : (at : FunctionPlace) (n : ℕ) → at.place ≡ n → eqb at.script at.script && eqb n at.place ≡ true
both_equal at n e = ap (λ t. t && eqb n at.place) (self_equal at.script) ∙ (ap (λ k. eqb n k) e ∙ self_equal n)

native_of : (fs : List OutlineFunction) (k : ℕ) → is_native_in (slice_get (map function_shape fs) k) ≡ true → (f : OutlineFunction) × (slice_get fs k ≡ Some f) × (f.is_native ≡ true)
native_of [] k h = absurd (cc)
native_of (f ∷ fs) zero h = (f, refl, h)
native_of (f ∷ fs) (suc k) h = native_of fs k h

no_native : (os : List OutlineScript) (at : FunctionPlace) → slice_get os at.script ≡ None → slice_get (shapes os) at.script ≡ None
no_native os at e = none_map os at.script e where
  none_map : (xs : List OutlineScript) (k : ℕ) → slice_get xs k ≡ None → slice_get (shapes xs) k ≡ None
  none_map [] k e = refl
  none_map (x ∷ xs) zero e = absurd (cc)
  none_map (x ∷ xs) (suc k) e = none_map xs k e

none_false : is_native_in None ≡ true → ⊥
none_false h = absurd (cc)

module _ (outlines : List OutlineScript) (fits : OutlineFits outlines) where
  -- ---- scripts above one another
  itself_first : (n left : ℕ) → 1 ≤ left → list_any (λ x. eqb x n) (upward left (shapes outlines) (Some n)) ≡ true
  itself_first n zero l = absurd (omega arith)
  itself_first n (suc left) l = ap (λ t. t || list_any (λ x. eqb x n) (upward left (shapes outlines) (parent_in (slice_get (shapes outlines) n)))) (self_equal n)

  or_true : (t : Bool) → t || true ≡ true
  or_true true = refl
  or_true false = refl

  is_child_at : (n a : ℕ) → StandsAbove (parents_of outlines) n a → 1 ≤ length outlines → is_child (shapes outlines) n a ≡ true
  is_child_at n a (itself m) l = itself_first m (length (shapes outlines)) (omega (arith, length-map outlines script_shape))
  is_child_at n a (further m p b e s) l =
      let script = parent_there outlines m p e in
      let shape = map_get script_shape outlines m script.0 script.1 in
      let up = fits.above m (script_shape script.0) shape ∙ ap (λ o. m ∷ lineage (shapes outlines) o) script.2 in
      ap (λ ls. list_any (λ x. eqb x b) ls) up ∙ (ap (λ t. eqb m b || t) (is_child_at p b s l) ∙ or_true (eqb m b))

  -- ---- natives
  allowed_fits : (parameters : List CoreType) (outcome : Option CoreType) (binding : Binding) → AllowsBinding parameters outcome binding → BindingFits (Some binding) outcome
  allowed_fits parameters outcome bindings.Sleep h = h.1
  allowed_fits parameters outcome (bindings.Trace latency) h = h.1
  allowed_fits parameters outcome bindings.PromptTrace h = h.1
  allowed_fits parameters outcome (bindings.Device device latency) h = reply_fits outcome h.1
  allowed_fits parameters outcome (bindings.PromptDevice device) h = reply_fits outcome h.1

  function_here : (script place : ℕ) (function : OutlineFunction) → IsFunctionAt outlines script place function → (at : FunctionPlace) → at.script ≡ script → at.place ≡ place → result_of (shapes outlines) at ≡ function.result
  function_here script place function h at e p =
      function_by (slice_get outlines script) refl h at e p where
        function_by : (o : Option OutlineScript) → slice_get outlines script ≡ o → slice_get (members.functions_in o) place ≡ Some function → (at : FunctionPlace) → at.script ≡ script → at.place ≡ place → result_of (shapes outlines) at ≡ function.result
        function_by None e h at s p = absurd (cc)
        function_by (Some os) e h at s p =
            let there = ap (λ n. slice_get (shapes outlines) n) s ∙ map_get script_shape outlines script os e in
            ap (λ o. result_in (slice_get (functions_in o) at.place)) there ∙ (ap (λ n. result_in (slice_get (map function_shape os.functions.items) n)) p ∙ ap result_in (map_get function_shape os.functions.items place function h))

  and_left : (a b : Bool) → a && b ≡ true → a ≡ true
  and_left true b h = refl
  and_left false b h = h

  and_right : (a b : Bool) → a && b ≡ true → b ≡ true
  and_right true b h = h
  and_right false b h = absurd (cc)

  abbrev here : FunctionPlace → ℕ × ℕ → Bool
  here at place = eqb place.0 at.script && eqb place.1 at.place

  bound_by : (devices : ℕ) (at : FunctionPlace) (native : BoundNative) (t : Bool) (rest : Option Binding) (more : Bool) → here at (place_of native) ≡ t → IsBoundNative outlines devices native → (more ≡ true → BindingFits rest (result_of (shapes outlines) at)) → t || more ≡ true → BindingFits (cond t (Some native.binding) rest) (result_of (shapes outlines) at)
  bound_by devices at native true rest more e b i h =
      let s = eqb-true native.script at.script (and_left (eqb native.script at.script) (eqb native.function at.place) e) in
      let p = eqb-true native.function at.place (and_right (eqb native.script at.script) (eqb native.function at.place) e) in
      subst (λ o. BindingFits (Some native.binding) o) (sym (function_here native.script native.function b.function b.there at (sym s) (sym p))) (allowed_fits b.function.parameters.items b.function.result native.binding b.types)
  bound_by devices at native false rest more e b i h = i h

  bound_in : (devices : ℕ) (at : FunctionPlace) (natives : List BoundNative) → All (IsBoundNative outlines devices) natives → list_any (here at) (map place_of natives) ≡ true → BindingFits (binding_in natives at) (result_of (shapes outlines) at)
  bound_in devices at [] a h = absurd (cc)
  bound_in devices at (native ∷ natives) a h =
      bound_by devices at native (here at (place_of native)) (binding_in natives at) (list_any (here at) (map place_of natives)) refl (a 0 native (omega arith)) (bound_in devices at natives (λ k d l. a (suc k) d (omega arith))) h

  -- a native function has its place in the list
  place_in : (at : FunctionPlace) (n : ℕ) (fs : List OutlineFunction) (k : ℕ) (f : OutlineFunction) → slice_get fs k ≡ Some f → f.is_native ≡ true → at.place ≡ n + k → at.place < 65536 → list_any (here at) (native_places_from at.script n fs) ≡ true
  place_in at n [] k f e native p small = absurd (cc)
  place_in at n (g ∷ fs) zero f e native p small =
      let same : g ≡ f = cc in
      let there : native_place_here at.script n g ≡ (at.script, n) ∷ [] = here_is at.script n g (ap (λ (x : OutlineFunction). x.is_native) same ∙ native) (omega (arith, p, small)) in
      ap (λ ps. list_any (here at) (ps ++ native_places_from at.script (n + 1) fs)) there ∙ ap (λ t. t || list_any (here at) (native_places_from at.script (n + 1) fs)) (both_equal at n (omega (arith, p)))
  place_in at n (g ∷ fs) (suc k) f e native p small =
      any_right (here at) (native_place_here at.script n g) (native_places_from at.script (n + 1) fs) (place_in at (n + 1) fs k f e native (omega (arith, p)) small)

  script_in_places : (at : FunctionPlace) (n : ℕ) (os : List OutlineScript) (k : ℕ) (script : OutlineScript) (f : OutlineFunction) → slice_get os k ≡ Some script → at.script ≡ n + k → at.script < 65536 → slice_get script.functions.items at.place ≡ Some f → f.is_native ≡ true → at.place < 65536 → list_any (here at) (native_places_of n os) ≡ true
  script_in_places at n [] k script f e s small h native few = absurd (cc)
  script_in_places at n (o ∷ os) zero script f e s small h native few =
      let same : o ≡ script = cc in
      let num : at.script ≡ n = omega (arith, s) in
      any_left (here at) (native_places_in n o) (native_places_of (n + 1) os) (ap (λ m. list_any (here at) (native_places_in m o)) (sym num) ∙ (ap (λ t. list_any (here at) (cond t (native_places_from at.script 0 o.functions.items) [])) (less_true at.script 65536 small) ∙ place_in at 0 o.functions.items at.place f (ap (λ (x : OutlineScript). slice_get x.functions.items at.place) same ∙ h) native (omega arith) few))
  script_in_places at n (o ∷ os) (suc k) script f e s small h native few =
      any_right (here at) (native_places_in n o) (native_places_of (n + 1) os) (script_in_places at (n + 1) os k script f e (omega (arith, s)) small h native few)

  native_found : (at : FunctionPlace) (o : Option OutlineScript) → slice_get outlines at.script ≡ o → is_native_at (shapes outlines) at ≡ true → (script : OutlineScript) × (f : OutlineFunction) × (slice_get outlines at.script ≡ Some script) × (slice_get script.functions.items at.place ≡ Some f) × (f.is_native ≡ true)
  native_found at None e h = absurd (none_false (ap (λ o. is_native_in (slice_get (functions_in o) at.place)) (sym (no_native outlines at e)) ∙ h))
  native_found at (Some os) e h =
      let there = map_get script_shape outlines at.script os e in
      let seen : is_native_in (slice_get (map function_shape os.functions.items) at.place) ≡ true = ap (λ x. is_native_in (slice_get (functions_in x) at.place)) (sym there) ∙ h in
      let f = native_of os.functions.items at.place seen in
      (os, f.0, e, f.1, f.2)

  pub natives_fit : (devices : ℕ) (natives : List BoundNative) → AreBoundNatives outlines devices natives → NativesFit (shapes outlines) natives
  natives_fit devices natives b at h =
      let f = native_found at (slice_get outlines at.script) refl h in
      let few = fits.functions at.script at.place f.1 (ap (λ o. slice_get (members.functions_in o) at.place) f.2 ∙ f.3) f.4 in
      let small = get_at outlines at.script f.0 f.0 f.2 in
      let listed = script_in_places at 0 outlines at.script f.0 f.1 f.2 (omega arith) (omega (arith, small.0, fits.scripts)) f.3 f.4 few in
      bound_in devices at natives b.allowed (ap (list_any (here at)) b.each_once ∙ listed)

  -- ---- values
  module _ (scene : Scene) (bound : IsBound outlines scene) where
    abbrev first : Known
    first = first_known (shapes outlines) (scene_shape scene)

    instance_there : (number own : ℕ) → slice_get (scripts_of scene) number ≡ Some own → (own < length outlines) × ((name : List ℕ) × (slice_get first.instances number ≡ Some (own, name)))
    instance_there number own e =
        let i = get_map script_of scene.instances.items number own e in
        let at = get_at scene.instances.items number i.0 i.0 i.1 in
        let b : IsBoundInstance outlines (scripts_of scene) i.0 = subst (λ x. IsBoundInstance outlines (scripts_of scene) x) at.1 (bound.instances number i.0 at.0) in
        let there = (b.script).there in
        let shape = map_get instance_shape scene.instances.items number i.0 i.1 in
        let made = map_get (first_instance (shapes outlines)) (map instance_shape scene.instances.items) number (instance_shape i.0) shape in
        let titled = map_get title (map (first_instance (shapes outlines)) (map instance_shape scene.instances.items)) number (first_instance (shapes outlines) (instance_shape i.0)) made in
        (subst (λ n. n < length outlines) i.2 there, ((i.0).name, titled ∙ ap (λ n. Some (n, (i.0).name)) i.2))

    instance_type : (number script : ℕ) → IsInstanceOf outlines (scripts_of scene) number script → IsOfScript (shapes outlines) script (slice_get first.instances number)
    instance_type number script h =
        let t = instance_there number h.own h.there in
        subst (λ o. IsOfScript (shapes outlines) script o) (sym t.1.1) (is_child_at h.own script h.above (omega (arith, t.0)))

    of_type : (kind : CoreType) (value : Value) → IsOfType outlines (scripts_of scene) kind value → HasType first kind value
    of_type kinds.Int values.NoneValue h = absurd h
    of_type kinds.Int (values.Int n) h = refl
    of_type kinds.Int (values.Bool b) h = absurd h
    of_type kinds.Int (values.Text t) h = absurd h
    of_type kinds.Int (values.Instance n) h = absurd h
    of_type kinds.Int (values.Array n) h = absurd h
    of_type kinds.Bool values.NoneValue h = absurd h
    of_type kinds.Bool (values.Int n) h = absurd h
    of_type kinds.Bool (values.Bool b) h = refl
    of_type kinds.Bool (values.Text t) h = absurd h
    of_type kinds.Bool (values.Instance n) h = absurd h
    of_type kinds.Bool (values.Array n) h = absurd h
    of_type kinds.Text values.NoneValue h = absurd h
    of_type kinds.Text (values.Int n) h = absurd h
    of_type kinds.Text (values.Bool b) h = absurd h
    of_type kinds.Text (values.Text t) h = refl
    of_type kinds.Text (values.Instance n) h = absurd h
    of_type kinds.Text (values.Array n) h = absurd h
    of_type (kinds.Script s) values.NoneValue h = refl
    of_type (kinds.Script s) (values.Int n) h = absurd h
    of_type (kinds.Script s) (values.Bool b) h = absurd h
    of_type (kinds.Script s) (values.Text t) h = absurd h
    of_type (kinds.Script s) (values.Instance n) h = instance_type n s h
    of_type (kinds.Script s) (values.Array n) h = absurd h
    of_type kinds.IntArray values.NoneValue h = refl
    of_type kinds.IntArray (values.Int n) h = absurd h
    of_type kinds.IntArray (values.Bool b) h = absurd h
    of_type kinds.IntArray (values.Text t) h = absurd h
    of_type kinds.IntArray (values.Instance n) h = absurd h
    of_type kinds.IntArray (values.Array n) h = absurd h
    of_type kinds.BoolArray values.NoneValue h = refl
    of_type kinds.BoolArray (values.Int n) h = absurd h
    of_type kinds.BoolArray (values.Bool b) h = absurd h
    of_type kinds.BoolArray (values.Text t) h = absurd h
    of_type kinds.BoolArray (values.Instance n) h = absurd h
    of_type kinds.BoolArray (values.Array n) h = absurd h
    of_type kinds.TextArray values.NoneValue h = refl
    of_type kinds.TextArray (values.Int n) h = absurd h
    of_type kinds.TextArray (values.Bool b) h = absurd h
    of_type kinds.TextArray (values.Text t) h = absurd h
    of_type kinds.TextArray (values.Instance n) h = absurd h
    of_type kinds.TextArray (values.Array n) h = absurd h
    of_type (kinds.ScriptArray s) values.NoneValue h = refl
    of_type (kinds.ScriptArray s) (values.Int n) h = absurd h
    of_type (kinds.ScriptArray s) (values.Bool b) h = absurd h
    of_type (kinds.ScriptArray s) (values.Text t) h = absurd h
    of_type (kinds.ScriptArray s) (values.Instance n) h = absurd h
    of_type (kinds.ScriptArray s) (values.Array n) h = absurd h

    of_types : (ks : List CoreType) (vs : List Value) → AreOfTypes outlines (scripts_of scene) ks vs → HaveTypes first (typed ks) vs
    of_types [] [] h = tt
    of_types [] (v ∷ vs) h = absurd h
    of_types (k ∷ ks) [] h = absurd h
    of_types (k ∷ ks) (v ∷ vs) h = (of_type k v h.0, of_types ks vs h.1)

    -- ---- what a scene gives its instances
    entry_fits : (script : ℕ) (entry : ℕ × ℕ × Value) → IsBoundEntry outlines (scripts_of scene) script entry → SetFits (shapes outlines) first entry
    entry_fits script entry b =
        let property = b.property in
        (property.kind, subst (λ n. IsVariable (shapes outlines) entry.0 n property.kind) b.variable (fits.properties entry.0 property b.there), of_type property.kind entry.2 b.value)

    pub instances_fit : AllByRecursion (InstanceFits (shapes outlines) first) (map instance_shape scene.instances.items)
    instances_fit =
        mapped (IsBoundInstance outlines (scripts_of scene)) (InstanceFits (shapes outlines) first) instance_shape scene.instances.items bound.instances (λ i b. each (IsBoundEntry outlines (scripts_of scene) i.script) (SetFits (shapes outlines) first) i.set.items b.set (entry_fits i.script))

    -- ---- calls
    module _ (scripts : List Script) (offers : Offers outlines scripts) where
      call_fits : (call : BoundCall) → IsBoundCall outlines (scripts_of scene) call → StartFits (code_types (shapes outlines) scripts) first (call_shape call)
      call_fits call b =
          let f = b.function in
          let on = b.callable in
          let can = on.callable in
          let t = instance_there call.instance on.script on.there in
          let at = get_at first.instances call.instance (on.script, t.1.0) (on.script, t.1.0) t.1.1 in (
            f.result,
            record {
              there = at.0;
              parameters = f.parameters.items;
              called = λ state. subst (λ o. MethodMeets (shapes outlines) false f.parameters.items f.result (method_in scripts (lineage (shapes outlines) (script_in o)) state call.function)) (sym t.1.1) (subst (λ g. MethodMeets (shapes outlines) g f.parameters.items f.result (method_in scripts (lineage (shapes outlines) (Some on.script)) state call.function)) can.of_instances (offers on.script call.function f can.found state));
              values = of_types f.parameters.items call.arguments.items b.arguments;
            },
          )

      pub calls_fit : AllByRecursion (StartFits (code_types (shapes outlines) scripts) first) (map call_shape scene.calls.items)
      calls_fit =
          mapped (IsBoundCall outlines (scripts_of scene)) (StartFits (code_types (shapes outlines) scripts) first) call_shape scene.calls.items bound.calls (λ c b. call_fits c b)
