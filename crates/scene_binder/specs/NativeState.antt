-- What binding a native function breaks and changes, and which native functions are bound after each step.
use Rattle.std.specs.Prelude.{ℕ, ◌≡◌, ◌<◌, List, [], ◌∷◌, ◌++◌, length, get_or, set, Bool, true, false, not, is_some, is_none, ◌&&◌, ◌||◌, ◌⊎◌, Option, Some, None, IfSome, option_and_then, slice_get}
use Rattle.std.specs.Option.{option_or}
use Rattle.papy_base.specs.Table.{number_in}
use Rattle.core_tree.specs.declared.outline.OutlineScript.{OutlineScript}
use Rattle.core_tree.specs.declared.scene_tree.Binding.{Binding}
use Rattle.scene_reader.specs.declared.fault.SceneFault.{SceneFault}
use Rattle.scene_reader.specs.declared.fault.SceneFault.TheVariants as faults
use Rattle.scene_reader.specs.declared.fault.SceneRule.{SceneRule}
use Rattle.scene_reader.specs.declared.fault.SceneRule.TheVariants as rules
use Rattle.scene_binder.specs.declared.natives.Native.{Native}
use Rattle.scene_binder.specs.declared.natives.Natives.{Natives}
use Rattle.scene_binder.specs.Faults.{allows, broken, has_device, kept_if}
use Rattle.scene_binder.specs.Meant.{binding_in}
use Rattle.scene_binder.specs.NativeList.{native_key}

-- the native whose folded name has these bytes
abbrev pub native_under : Natives → List ℕ → Option Native
native_under natives bytes = option_and_then (slice_get natives.natives.items) (number_in natives.names bytes)

-- what an entry for the native breaks
abbrev pub known_breaks : ℕ → Option Native → Binding → List SceneRule
known_breaks devices None binding = rules.NoFunction ∷ []
known_breaks devices (Some native) binding =
    broken rules.DuplicateName (is_some native.binding) ++ (broken rules.NoDevice (not (has_device devices binding)) ++ broken rules.UnboundNative (not (allows native.function.now binding)))

-- what it breaks where it is a default one
abbrev pub default_known_breaks : ℕ → Option Native → Binding → List SceneRule
default_known_breaks devices None binding = []
default_known_breaks devices (Some native) binding = broken rules.NoDevice (not (has_device devices binding) && not (is_some native.binding))

-- a native without binding breaks C8
abbrev pub left_breaks : Native → List SceneRule
left_breaks native = broken rules.UnboundNative (is_none native.binding)

-- the native of these bytes, which had no binding, has this one, which its types allow
pub record Binds (old new : Natives) (bytes : List ℕ) (binding : Binding) : Type 0 where
  pub number : ℕ
  pub native : Native
  pub found : number_in old.names bytes ≡ Some number
  pub inside : number < length old.natives.items
  pub is : native ≡ get_or old.natives.items number native
  pub unbound : native.binding ≡ None
  pub allowed : allows native.function.now binding ≡ true
  pub items : new.natives.items ≡ set old.natives.items number (record native { binding = Some binding })
  pub names : new.names ≡ old.names

-- a default binding is left out where the native isn't there, is bound, or is of other types
abbrev pub IsLeftOut : Option Native → Binding → Type 0
IsLeftOut None binding = Unit {0}
IsLeftOut (Some native) binding = (is_some native.binding || not (allows native.function.now binding)) ≡ true

-- the fault of a default binding that is left out
abbrev pub leaves_out : SceneFault → Bool
leaves_out (faults.Broken rules.NoDevice) = false
leaves_out (faults.Broken rule) = true
leaves_out faults.OutOfMemory = false

abbrev pub BindsDefault : Natives → Natives → List ℕ → Binding → Type 0
BindsDefault old new bytes binding = Binds old new bytes binding ⊎ ((new ≡ old) × IsLeftOut (native_under old bytes) binding)

-- a native has the binding of an entry, or else the default one where its types allow it; no entry is one of no native
abbrev pub IsSettledBy : Option Binding → Option Binding → Option Native → Type 0
IsSettledBy entry default None = entry ≡ None
IsSettledBy entry default (Some native) = native.binding ≡ option_or entry (kept_if (allows native.function.now) default)

abbrev pub IsSettled : List (List ℕ × Binding) → List (List ℕ × Binding) → List ℕ → Option Native → Type 0
IsSettled entries defaults bytes known = IsSettledBy (binding_in entries bytes) (binding_in defaults bytes) known

-- so far these entries and default bindings were tried
pub record AreSettled (scripts : List OutlineScript) (entries defaults : List (List ℕ × Binding)) (natives : Natives) : Type 0 where
  pub settled : (bytes : List ℕ) → IsSettled entries defaults bytes (native_under natives bytes)
  pub first : (n : ℕ) (native : Native) → slice_get natives.natives.items n ≡ Some native → IfSome native.binding (λ _. number_in natives.names (native_key scripts native) ≡ Some n)
