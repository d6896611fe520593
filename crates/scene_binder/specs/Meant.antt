-- What the names of a scene mean, and that a bound scene has in their place what they mean.
use Rattle.std.specs.Prelude.{ℕ, ◌≡◌, List, [], ◌∷◌, ◌++◌, codes, Option, Some, option_map, slice_get}
use Rattle.std.specs.List.{All, AllZip}
use Rattle.std.specs.Option.{option_or}
use Rattle.papy_base.specs.Case.{folded}
use Rattle.papy_base.specs.Table.{place_of}
use Rattle.core_tree.specs.declared.outline.OutlineFunction.{OutlineFunction}
use Rattle.core_tree.specs.declared.outline.OutlineProperty.{OutlineProperty}
use Rattle.core_tree.specs.declared.outline.OutlineScript.{OutlineScript}
use Rattle.core_tree.specs.declared.scene.BoundCall.{BoundCall}
use Rattle.core_tree.specs.declared.scene.BoundInstance.{BoundInstance}
use Rattle.core_tree.specs.declared.scene.BoundNative.{BoundNative}
use Rattle.core_tree.specs.declared.scene.Scene.{Scene}
use Rattle.core_tree.specs.declared.scene_tree.Binding.{Binding}
use Rattle.core_tree.specs.declared.scene_tree.Binding.TheVariants as bindings
use Rattle.core_tree.specs.declared.scene_tree.SceneCall.{SceneCall}
use Rattle.core_tree.specs.declared.scene_tree.SceneInstance.{SceneInstance}
use Rattle.core_tree.specs.declared.scene_tree.SceneTree.{SceneTree}
use Rattle.core_tree.specs.declared.scene_tree.SceneValue.{SceneValue}
use Rattle.core_tree.specs.declared.scene_tree.SceneValue.TheVariants as written
use Rattle.core_tree.specs.declared.value.Value.{Value}
use Rattle.core_tree.specs.declared.value.Value.TheVariants as values
use Rattle.scene_binder.specs.Instances.{tree_name}
use Rattle.scene_binder.specs.Members.{IsNearestProperty, script_named}
use Rattle.core_tree.specs.Outlines.{name_in}
use Rattle.scene_binder.specs.Names.{entry_name, first_of}
use Rattle.scene_binder.specs.Natives.{IsFunctionAt}

-- the number of the instance of this name, where these are the instances of the scene
abbrev pub instance_named : List SceneInstance → List ℕ → Option ℕ
instance_named instances name = place_of tree_name instances (folded name)

-- the value that is written: itself, and the number of the instance that it names
abbrev pub value_meant : List SceneInstance → SceneValue → Option Value
value_meant instances written.NoneValue = Some values.NoneValue
value_meant instances (written.Int number) = Some (values.Int number)
value_meant instances (written.Bool truth) = Some (values.Bool truth)
value_meant instances (written.Text text) = Some (values.Text text)
value_meant instances (written.Instance name) = option_map (λ n. values.Instance n) (instance_named instances name)

abbrev pub IsValueMeant : List SceneInstance → SceneValue → Value → Type 0
IsValueMeant instances value bound = value_meant instances value ≡ Some bound

-- an entry of the `set` of an instance of this script: the nearest Auto property of its name, from the script upward, is
-- set to its value
pub record IsEntryMeant (scripts : List OutlineScript) (instances : List SceneInstance) (script : ℕ) (entry : List ℕ × SceneValue) (bound : ℕ × ℕ × Value) : Type 0 where
  pub property : OutlineProperty
  pub nearest : IsNearestProperty scripts entry.0 script bound.0 property
  pub variable : property.variable ≡ bound.1
  pub value : IsValueMeant instances entry.1 bound.2

-- an instance is of the script that it names, and sets each entry of its `set`, in order
pub record IsInstanceMeant (scripts : List OutlineScript) (instances : List SceneInstance) (instance : SceneInstance) (bound : BoundInstance) : Type 0 where
  pub script : script_named scripts instance.script ≡ Some bound.script
  pub set : AllZip (IsEntryMeant scripts instances bound.script) instance.set.items bound.set.items

-- a call is one of the instance that it names, with its arguments in order
pub record IsCallMeant (instances : List SceneInstance) (call : SceneCall) (bound : BoundCall) : Type 0 where
  pub instance : instance_named instances call.instance ≡ Some bound.instance
  pub arguments : AllZip (IsValueMeant instances) call.arguments.items bound.arguments.items

-- how a scene names a native function: its script, a dot, and itself
abbrev pub full_name : List ℕ → List ℕ → List ℕ
full_name script function = script ++ codes "." ++ function

-- what the native function of this name does without an entry of the scene
abbrev pub default_entries : List (List ℕ × Binding)
default_entries =
    (codes "Debug.Trace", bindings.Trace 0) ∷ (codes "Scene.Sleep", bindings.Sleep) ∷ (codes "Utility.RandomInt", bindings.Device 3 0) ∷ []

-- the binding of the first of these entries whose folded name has these bytes
abbrev pub binding_in : List (List ℕ × Binding) → List ℕ → Option Binding
binding_in entries bytes = option_map (λ entry. entry.1) (first_of entry_name entries bytes)

-- the binding of the native function of this name: that of the scene's entry, or else the one without an entry
abbrev pub binding_meant : List (List ℕ × Binding) → List ℕ → Option Binding
binding_meant entries bytes = option_or (binding_in entries bytes) (binding_in default_entries bytes)

-- a native function does what is said of its name
pub record IsNativeMeant (scripts : List OutlineScript) (entries : List (List ℕ × Binding)) (native : BoundNative) : Type 0 where
  pub function : OutlineFunction
  pub there : IsFunctionAt scripts native.script native.function function
  pub binding : binding_meant entries (folded (full_name (name_in (slice_get scripts native.script)) function.name)) ≡ Some native.binding

-- the instances and calls of a bound scene are those that were read, each in its place, and so are the bindings of natives
pub record IsMeant (tree : SceneTree) (scripts : List OutlineScript) (scene : Scene) : Type 0 where
  pub instances : AllZip (IsInstanceMeant scripts tree.instances.items) tree.instances.items scene.instances.items
  pub natives : All (IsNativeMeant scripts tree.natives.items) scene.natives.items
  pub calls : AllZip (IsCallMeant tree.instances.items) tree.calls.items scene.calls.items
