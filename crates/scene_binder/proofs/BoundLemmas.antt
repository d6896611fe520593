-- Values of types one by one, and the members of scripts.
use Rattle.std.proofs.Common.{ℕ, ◌≡◌, ◌≤◌, length, List, [], ◌∷◌, ◌++◌, map, Some, None, ap, sym, subst, ◌∙◌}
use Rattle.std.specs.List.{All, AllZip, Contains, slice_get}
use Rattle.std.specs.Option.{option_map}
use Rattle.std.proofs.lemmas.List.{length-map}
use Rattle.std.proofs.lemmas.Option.{slice_get-map, slice_get_past}
use Rattle.core_tree.specs.declared.core_type.CoreType.{CoreType}
use Rattle.core_tree.specs.declared.outline.OutlineFunction.{OutlineFunction}
use Rattle.core_tree.specs.declared.outline.OutlineProperty.{OutlineProperty}
use Rattle.core_tree.specs.declared.outline.OutlineScript.{OutlineScript}
use Rattle.core_tree.specs.declared.scene.BoundInstance.{BoundInstance}
use Rattle.core_tree.specs.declared.scene.Scene.{Scene}
use Rattle.core_tree.specs.declared.scene_tree.SceneInstance.{SceneInstance}
use Rattle.core_tree.specs.declared.value.Value.{Value}
use Rattle.scene_binder.specs.declared.scripts.ScriptMembers.{ScriptMembers}
use Rattle.scene_binder.specs.Bound.{AreBoundNatives, AreOfTypes, IsBound, IsBoundCall, IsBoundInstance, IsOfType, script_of}
use Rattle.scene_binder.specs.Instances.{tree_script}
use Rattle.scene_binder.specs.Meant.{IsInstanceMeant}
use Rattle.scene_binder.specs.Members.{HasFunction, HasProperty, functions_in, own_function, own_property, properties_in, script_named}
use Rattle.scene_binder.specs.Names.{first_of, function_name, property_name}
use Rattle.scene_binder.specs.Scope.{IsSetOf}

-- one more type with a value of it
pub AreOfTypes-push : (scripts : List OutlineScript) (instances : List ℕ) (ks : List CoreType) (vs : List Value) (k : CoreType) (v : Value) → AreOfTypes scripts instances ks vs → IsOfType scripts instances k v → AreOfTypes scripts instances (ks ++ k ∷ []) (vs ++ v ∷ [])
AreOfTypes-push scripts instances [] [] k v h own = (own, tt)
AreOfTypes-push scripts instances [] (w ∷ vs) k v h own = absurd h
AreOfTypes-push scripts instances (l ∷ ks) [] k v h own = absurd h
AreOfTypes-push scripts instances (l ∷ ks) (w ∷ vs) k v h own = (h.0, AreOfTypes-push scripts instances ks vs k v h.1 own)

abbrev pub scripts_in : List ScriptMembers → List OutlineScript
scripts_in list = map (λ members. members.script.now) list

script_at : (list : List ScriptMembers) (n : ℕ) (m : ScriptMembers) → slice_get list n ≡ Some m → slice_get (scripts_in list) n ≡ Some m.script.now
script_at list n m is = slice_get-map (λ members. members.script.now) list n ∙ ap (option_map (λ members. members.script.now)) is

-- a member of a script is one of the script of its number
pub HasFunction-from : (list : List ScriptMembers) (n : ℕ) (m : ScriptMembers) (f : OutlineFunction) → slice_get list n ≡ Some m → Contains m.script.now.functions.items f → HasFunction (scripts_in list) n f
HasFunction-from list n m f is own = subst (λ o. Contains (functions_in o) f) (sym (script_at list n m is)) own

pub HasProperty-from : (list : List ScriptMembers) (n : ℕ) (m : ScriptMembers) (p : OutlineProperty) → slice_get list n ≡ Some m → Contains m.script.now.properties.items p → HasProperty (scripts_in list) n p
HasProperty-from list n m p is own = subst (λ o. Contains (properties_in o) p) (sym (script_at list n m is)) own

-- what the script of a number has of its own under a name
pub own_property-there : (list : List ScriptMembers) (n : ℕ) (m : ScriptMembers) (bytes : List ℕ) → slice_get list n ≡ Some m → own_property (scripts_in list) bytes n ≡ first_of property_name m.script.now.properties.items bytes
own_property-there list n m bytes is = ap (λ o. first_of property_name (properties_in o) bytes) (script_at list n m is)

pub own_function-there : (list : List ScriptMembers) (n : ℕ) (m : ScriptMembers) (bytes : List ℕ) → slice_get list n ≡ Some m → own_function (scripts_in list) bytes n ≡ first_of function_name m.script.now.functions.items bytes
own_function-there list n m bytes is = ap (λ o. first_of function_name (functions_in o) bytes) (script_at list n m is)

no_script : (list : List ScriptMembers) (n : ℕ) → length list ≤ n → slice_get (scripts_in list) n ≡ None
no_script list n past = slice_get_past (scripts_in list) n (simp length-map past)

pub own_property-nowhere : (list : List ScriptMembers) (n : ℕ) (bytes : List ℕ) → length list ≤ n → own_property (scripts_in list) bytes n ≡ None
own_property-nowhere list n bytes past = ap (λ o. first_of property_name (properties_in o) bytes) (no_script list n past)

pub own_function-nowhere : (list : List ScriptMembers) (n : ℕ) (bytes : List ℕ) → length list ≤ n → own_function (scripts_in list) bytes n ≡ None
own_function-nowhere list n bytes past = ap (λ o. first_of function_name (functions_in o) bytes) (no_script list n past)

-- a scene is bound whose parts are, with the scripts of its instances in order
pub IsBound-from : (scripts : List OutlineScript) (instances : List ℕ) (scene : Scene) → map script_of scene.instances.items ≡ instances → All (IsBoundInstance scripts instances) scene.instances.items → AreBoundNatives scripts scene.devices scene.natives.items
    → length scene.tapes.items ≤ scene.devices → All (IsBoundCall scripts instances) scene.calls.items → IsBound scripts scene
IsBound-from scripts instances scene same bound natives tapes calls = record {
  instances = subst (λ ns. All (IsBoundInstance scripts ns) scene.instances.items) (sym same) bound;
  natives = natives;
  tapes = tapes;
  calls = subst (λ ns. All (IsBoundCall scripts ns) scene.calls.items) (sym same) calls;
}

-- instances whose sets are meant, and whose scripts are the named ones, are meant
pub instances_meant : (scripts : List OutlineScript) (instances : List SceneInstance) (xs : List SceneInstance) (ys : List BoundInstance) → AllZip (IsSetOf scripts instances) xs ys → map (λ n. Some n) (map script_of ys) ≡ map (tree_script scripts) xs → AllZip (IsInstanceMeant scripts instances) xs ys
instances_meant scripts instances [] [] h same = tt
instances_meant scripts instances [] (y ∷ ys) h same = absurd h
instances_meant scripts instances (x ∷ xs) [] h same = absurd h
instances_meant scripts instances (x ∷ xs) (y ∷ ys) h same =
    let here : script_named scripts x.script ≡ Some y.script = cc in
    let others : map (λ n. Some n) (map script_of ys) ≡ map (tree_script scripts) xs = cc in
    (record { script = here; set = h.0 }, instances_meant scripts instances xs ys h.1 others)
