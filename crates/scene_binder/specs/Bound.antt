-- What a scene that is bound to an outline keeps.
use Rattle.std.specs.Prelude.{ℕ, ◌≡◌, ◌≤◌, List, [], ◌∷◌, map, length, false, Some, slice_get}
use Rattle.std.specs.List.{All}
use Rattle.papy_base.specs.Lineage.{StandsAbove}
use Rattle.core_tree.specs.Outlines.{parents_of}
use Rattle.core_tree.specs.declared.core_type.CoreType.{CoreType}
use Rattle.core_tree.specs.declared.core_type.CoreType.TheVariants as kinds
use Rattle.core_tree.specs.declared.outline.OutlineFunction.{OutlineFunction}
use Rattle.core_tree.specs.declared.outline.OutlineProperty.{OutlineProperty}
use Rattle.core_tree.specs.declared.outline.OutlineScript.{OutlineScript}
use Rattle.core_tree.specs.declared.scene.BoundCall.{BoundCall}
use Rattle.core_tree.specs.declared.scene.BoundInstance.{BoundInstance}
use Rattle.core_tree.specs.declared.scene.BoundNative.{BoundNative}
use Rattle.core_tree.specs.declared.scene.Scene.{Scene}
use Rattle.core_tree.specs.declared.value.Value.{Value}
use Rattle.core_tree.specs.declared.value.Value.TheVariants as values
use Rattle.scene_binder.specs.Instances.{IsInstantiable}
use Rattle.scene_binder.specs.Members.{HasFunctionNamed, HasProperty}
use Rattle.scene_binder.specs.Natives.{native_places, IsAllowed}

-- the instance of this number is of the script, where these are the scripts of instances
pub record IsInstanceOf (scripts : List OutlineScript) (instances : List ℕ) (number script : ℕ) : Type 0 where
  pub own : ℕ
  pub there : slice_get instances number ≡ Some own
  pub above : StandsAbove (parents_of scripts) own script

-- the value is of the type
abbrev pub IsOfType : List OutlineScript → List ℕ → CoreType → Value → Type 0
IsOfType scripts instances kinds.Int (values.Int number) = Unit {0}
IsOfType scripts instances kinds.Bool (values.Bool truth) = Unit {0}
IsOfType scripts instances kinds.Text (values.Text text) = Unit {0}
IsOfType scripts instances (kinds.Script script) values.NoneValue = Unit {0}
IsOfType scripts instances (kinds.Script script) (values.Instance number) = IsInstanceOf scripts instances number script
IsOfType scripts instances kinds.IntArray values.NoneValue = Unit {0}
IsOfType scripts instances kinds.BoolArray values.NoneValue = Unit {0}
IsOfType scripts instances kinds.TextArray values.NoneValue = Unit {0}
IsOfType scripts instances (kinds.ScriptArray script) values.NoneValue = Unit {0}
IsOfType scripts instances _ _ = ⊥

-- one value for each type, each of its type
abbrev pub AreOfTypes : List OutlineScript → List ℕ → List CoreType → List Value → Type 0
AreOfTypes scripts instances [] [] = Unit {0}
AreOfTypes scripts instances (kind ∷ others) (value ∷ rest) = IsOfType scripts instances kind value × AreOfTypes scripts instances others rest
AreOfTypes scripts instances _ _ = ⊥

-- a value after the script and the number of the variable that it is for: those of an Auto property of an
-- instance's script or of one above it, with a value of its type
pub record IsBoundEntry (scripts : List OutlineScript) (instances : List ℕ) (script : ℕ) (entry : ℕ × ℕ × Value) : Type 0 where
  pub above : StandsAbove (parents_of scripts) script entry.0
  pub property : OutlineProperty
  pub there : HasProperty scripts entry.0 property
  pub variable : property.variable ≡ entry.1
  pub value : IsOfType scripts instances property.kind entry.2

pub record IsBoundInstance (scripts : List OutlineScript) (instances : List ℕ) (instance : BoundInstance) : Type 0 where
  pub script : IsInstantiable scripts instance.script
  pub set : All (IsBoundEntry scripts instances instance.script) instance.set.items

-- a function with a body that belongs to instances, of this script or of one above it, under this name
pub record IsCallable (scripts : List OutlineScript) (script : ℕ) (name : List ℕ) (function : OutlineFunction) : Type 0 where
  pub found : HasFunctionNamed scripts script name function
  pub has_body : function.is_native ≡ false
  pub of_instances : function.is_global ≡ false

-- the same of the script of the instance of this number
pub record IsCallableOn (scripts : List OutlineScript) (instances : List ℕ) (instance : ℕ) (name : List ℕ) (function : OutlineFunction) : Type 0 where
  pub script : ℕ
  pub there : slice_get instances instance ≡ Some script
  pub callable : IsCallable scripts script name function

pub record IsBoundCall (scripts : List OutlineScript) (instances : List ℕ) (call : BoundCall) : Type 0 where
  pub function : OutlineFunction
  pub callable : IsCallableOn scripts instances call.instance call.function function
  pub arguments : AreOfTypes scripts instances function.parameters.items call.arguments.items

abbrev pub place_of : BoundNative → ℕ × ℕ
place_of native = (native.script, native.function)

abbrev pub IsBoundNative : List OutlineScript → ℕ → BoundNative → Type 0
IsBoundNative scripts devices native = IsAllowed scripts devices native.script native.function native.binding

-- the natives with what they do: each native function once, in order
pub record AreBoundNatives (scripts : List OutlineScript) (devices : ℕ) (natives : List BoundNative) : Type 0 where
  pub each_once : map place_of natives ≡ native_places scripts
  pub allowed : All (IsBoundNative scripts devices) natives

abbrev pub script_of : BoundInstance → ℕ
script_of instance = instance.script

abbrev pub instance_name : BoundInstance → List ℕ
instance_name instance = instance.name

-- when a call begins, and the name of its function
abbrev pub call_parts : BoundCall → ℕ × List ℕ
call_parts call = (call.turn, call.function)

abbrev pub scripts_of : Scene → List ℕ
scripts_of scene = map script_of scene.instances.items

-- the scene is bound to the scripts of an outline
pub record IsBound (scripts : List OutlineScript) (scene : Scene) : Type 0 where
  pub instances : All (IsBoundInstance scripts (scripts_of scene)) scene.instances.items
  pub natives : AreBoundNatives scripts scene.devices scene.natives.items
  pub tapes : length scene.tapes.items ≤ scene.devices
  pub calls : All (IsBoundCall scripts (scripts_of scene)) scene.calls.items
