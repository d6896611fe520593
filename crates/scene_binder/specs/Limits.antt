-- The limits that a bound scene keeps where the scene that was read keeps them.
use Rattle.std.specs.Prelude.{ℕ, ◌≤◌, length, IfSome}
use Rattle.std.specs.List.{All}
use Rattle.core_tree.specs.declared.scene.BoundCall.{BoundCall}
use Rattle.core_tree.specs.declared.scene.BoundInstance.{BoundInstance}
use Rattle.core_tree.specs.declared.scene.BoundNative.{BoundNative}
use Rattle.core_tree.specs.declared.scene.Scene.{Scene}
use Rattle.core_tree.specs.declared.value.Value.{Value}
use Rattle.core_tree.specs.declared.value.Value.TheVariants as values
use Rattle.papy_base.specs.InstanceName.{IsInstanceName}
use Rattle.scene_reader.specs.Limits.{BindingKeeps, IsQuantum, IsShort, IsTurns, OrderKeeps, TapeKeeps}
use Rattle.scene_binder.specs.declared.natives.Native.{Native}
use Rattle.scene_binder.specs.declared.natives.Natives.{Natives}

-- a text of at most 1,024 bytes, or no text
abbrev pub IsShortValue : Value → Type 0
IsShortValue (values.Text text) = IsShort text
IsShortValue _ = Unit {0}

abbrev pub IsShortEntry : ℕ × ℕ × Value → Type 0
IsShortEntry entry = IsShortValue entry.2

pub record InstanceKeepsLimits (instance : BoundInstance) : Type 0 where
  pub name : IsInstanceName instance.name
  pub set : All IsShortEntry instance.set.items

pub record CallKeepsLimits (call : BoundCall) : Type 0 where
  pub turn : IsTurns call.turn
  pub function : IsShort call.function
  pub arguments : All IsShortValue call.arguments.items

abbrev pub NativeKeepsLimits : BoundNative → Type 0
NativeKeepsLimits native = BindingKeeps native.binding

-- the same of a native that may have no binding yet
abbrev pub MayKeepLimits : Native → Type 0
MayKeepLimits native = IfSome native.binding BindingKeeps

abbrev pub NativesKeepLimits : Natives → Type 0
NativesKeepLimits natives = All MayKeepLimits natives.natives.items

-- the names of instances have their form, and the limits hold
pub record SceneKeepsLimits (scene : Scene) : Type 0 where
  pub few_instances : length scene.instances.items ≤ 256
  pub instances : All InstanceKeepsLimits scene.instances.items
  pub few_calls : length scene.calls.items ≤ 1024
  pub calls : All CallKeepsLimits scene.calls.items
  pub natives : All NativeKeepsLimits scene.natives.items
  pub tapes : All TapeKeeps scene.tapes.items
  pub order : OrderKeeps scene.order
  pub turns : IsTurns scene.turns
  pub quantum : IsQuantum scene.quantum
