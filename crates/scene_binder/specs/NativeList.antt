-- The native functions of an outline while they are bound.
use Rattle.std.specs.Prelude.{ℕ, ◌≡◌, List, ◌++◌, map, true, Some, None, IfSome, slice_get}
use Rattle.std.specs.List.{All}
use Rattle.papy_base.specs.Case.{folded}
use Rattle.papy_base.specs.Table.{IsPlaceTable, number_in}
use Rattle.core_tree.specs.declared.outline.OutlineFunction.{OutlineFunction}
use Rattle.core_tree.specs.declared.outline.OutlineScript.{OutlineScript}
use Rattle.core_tree.specs.declared.scene_tree.Binding.{Binding}
use Rattle.scene_binder.specs.declared.natives.Native.{Native}
use Rattle.scene_binder.specs.declared.natives.Natives.{Natives}
use Rattle.scene_binder.specs.Limits.{NativesKeepLimits}
use Rattle.scene_binder.specs.Meant.{binding_in, binding_meant, full_name}
use Rattle.core_tree.specs.Outlines.{name_in}
use Rattle.scene_binder.specs.Natives.{AllowsBinding, HasDevice, IsFunctionAt, native_places}

abbrev pub native_place : Native → ℕ × ℕ
native_place native = (native.script, native.place)

-- `Script.Function`, under which a native is found
abbrev pub native_name : List OutlineScript → Native → List ℕ
native_name scripts native = full_name (name_in (slice_get scripts native.script)) native.function.now.name

-- and its bytes with A to Z read as a to z
abbrev pub native_key : List OutlineScript → Native → List ℕ
native_key scripts native = folded (native_name scripts native)

-- the table has the natives by name
abbrev pub AreTabled : List OutlineScript → Natives → Type 0
AreTabled scripts natives = IsPlaceTable (native_name scripts) natives.natives.items natives.names

abbrev pub IsUnbound : Native → Type 0
IsUnbound native = native.binding ≡ None

-- the script of this number, with this function of its empty state at this place
pub record IsFunctionOf (scripts : List OutlineScript) (number : ℕ) (script : OutlineScript) (place : ℕ) (function : OutlineFunction) : Type 0 where
  pub there : slice_get scripts number ≡ Some script
  pub own : slice_get script.functions.items place ≡ Some function

-- the function may do this, with so many devices
pub record MayDo (devices : ℕ) (function : OutlineFunction) (binding : Binding) : Type 0 where
  pub types : AllowsBinding function.parameters.items function.result binding
  pub device : HasDevice devices binding

pub record HoldsNative (scripts : List OutlineScript) (devices : ℕ) (native : Native) : Type 0 where
  pub there : IsFunctionAt scripts native.script native.place native.function.now
  pub is_native : native.function.now.is_native ≡ true
  pub binding : IfSome native.binding (MayDo devices native.function.now)

-- each native function of the outline once, in order
pub record AreNatives (scripts : List OutlineScript) (natives : Natives) : Type 0 where
  pub each_once : map native_place natives.natives.items ≡ native_places scripts
  pub hold : All (HoldsNative scripts natives.devices) natives.natives.items
  pub tabled : AreTabled scripts natives

-- natives were added at these places, and hold where the premise does
pub record Adds (old new : Natives) (places : List (ℕ × ℕ)) (Premise : List OutlineScript → Type 0) : Type 0 where
  pub each_once : map native_place new.natives.items ≡ map native_place old.natives.items ++ places
  pub hold : (scripts : List OutlineScript) → Premise scripts → All (HoldsNative scripts old.devices) old.natives.items → All (HoldsNative scripts old.devices) new.natives.items
  pub tabled : (scripts : List OutlineScript) → Premise scripts → AreTabled scripts old → AreTabled scripts new
  pub unbound : All IsUnbound old.natives.items → All IsUnbound new.natives.items
  pub devices : new.devices ≡ old.devices
  pub limits : NativesKeepLimits old → NativesKeepLimits new

-- no entry names a native that isn't bound
abbrev pub AreLeft : List (List ℕ × Binding) → Natives → Type 0
AreLeft entries natives =
    (bytes : List ℕ) (n : ℕ) (native : Native) → number_in natives.names bytes ≡ Some n → slice_get natives.natives.items n ≡ Some native → native.binding ≡ None → binding_in entries bytes ≡ None

-- a native that is bound has the binding of the entry of its name
abbrev pub HasEntry : List OutlineScript → List (List ℕ × Binding) → Native → Type 0
HasEntry scripts entries native =
    IfSome native.binding (λ binding. binding_in entries (native_key scripts native) ≡ Some binding)

-- the natives are bound by these entries alone
pub record AreBoundBy (scripts : List OutlineScript) (entries : List (List ℕ × Binding)) (natives : Natives) : Type 0 where
  pub bound : All (HasEntry scripts entries) natives.natives.items
  pub left : AreLeft entries natives

-- a native that is bound does what is said of its name
abbrev pub HasMeaning : List OutlineScript → List (List ℕ × Binding) → Native → Type 0
HasMeaning scripts entries native =
    IfSome native.binding (λ binding. binding_meant entries (native_key scripts native) ≡ Some binding)

-- the natives are bound by these entries, and by the default ones where there is none
pub record AreMeant (scripts : List OutlineScript) (entries : List (List ℕ × Binding)) (natives : Natives) : Type 0 where
  pub bound : All (HasMeaning scripts entries) natives.natives.items
  pub left : AreLeft entries natives
