-- What native functions may do.
use Rattle.std.specs.Prelude.{ℕ, ◌≡◌, ◌<◌, ◌+◌, List, [], ◌∷◌, ◌++◌, true, nat_lt, ◌&&◌, if◌then◌else◌, Option, Some, None, slice_get}
use Rattle.std.specs.List.{All}
use Rattle.core_tree.specs.declared.core_type.CoreType.{CoreType}
use Rattle.core_tree.specs.declared.core_type.CoreType.TheVariants as kinds
use Rattle.core_tree.specs.declared.outline.OutlineFunction.{OutlineFunction}
use Rattle.core_tree.specs.declared.outline.OutlineScript.{OutlineScript}
use Rattle.core_tree.specs.declared.scene_tree.Binding.{Binding}
use Rattle.core_tree.specs.declared.scene_tree.Binding.TheVariants as bindings
use Rattle.scene_binder.specs.Members.{functions_in}

-- a device knows whole numbers and truth values
abbrev pub IsCell : CoreType → Type 0
IsCell kinds.Int = Unit {0}
IsCell kinds.Bool = Unit {0}
IsCell _ = ⊥

abbrev pub IsReply : Option CoreType → Type 0
IsReply None = Unit {0}
IsReply (Some kind) = IsCell kind

abbrev pub BeginsWithText : List CoreType → Type 0
BeginsWithText (kinds.Text ∷ rest) = Unit {0}
BeginsWithText _ = ⊥

-- types that let a native put its stack to sleep, trace a text and call a device
abbrev pub MaySleep : List CoreType → Option CoreType → Type 0
MaySleep parameters outcome = (parameters ≡ kinds.Int ∷ []) × (outcome ≡ None)

abbrev pub MayTrace : List CoreType → Option CoreType → Type 0
MayTrace parameters outcome = BeginsWithText parameters × (outcome ≡ None)

abbrev pub MayCall : List CoreType → Option CoreType → Type 0
MayCall parameters outcome = All IsCell parameters × IsReply outcome

-- types that let a native do this
abbrev pub AllowsBinding : List CoreType → Option CoreType → Binding → Type 0
AllowsBinding parameters outcome bindings.Sleep = MaySleep parameters outcome
AllowsBinding parameters outcome (bindings.Trace latency) = MayTrace parameters outcome
AllowsBinding parameters outcome bindings.PromptTrace = MayTrace parameters outcome
AllowsBinding parameters outcome (bindings.Device device latency) = MayCall parameters outcome
AllowsBinding parameters outcome (bindings.PromptDevice device) = MayCall parameters outcome

-- the device that is called is one of so many
abbrev pub HasDevice : ℕ → Binding → Type 0
HasDevice devices (bindings.Device device latency) = device < devices
HasDevice devices (bindings.PromptDevice device) = device < devices
HasDevice devices _ = Unit {0}

-- the place of a function, where it is native; places have 16 bits
abbrev pub native_place_here : ℕ → ℕ → OutlineFunction → List (ℕ × ℕ)
native_place_here script place function =
    if function.is_native && nat_lt place 65536 then (script, place) ∷ [] else []

-- those of a list whose first function has this place
abbrev pub native_places_from : ℕ → ℕ → List OutlineFunction → List (ℕ × ℕ)
native_places_from script place [] = []
native_places_from script place (function ∷ functions) =
    native_place_here script place function ++ native_places_from script (place + 1) functions

abbrev pub native_places_in : ℕ → OutlineScript → List (ℕ × ℕ)
native_places_in number script = if nat_lt number 65536 then native_places_from number 0 script.functions.items else []

-- those of scripts of which the first has this number
abbrev pub native_places_of : ℕ → List OutlineScript → List (ℕ × ℕ)
native_places_of number [] = []
native_places_of number (script ∷ scripts) = native_places_in number script ++ native_places_of (number + 1) scripts

-- the places of all native functions, in the order of the outline
abbrev pub native_places : List OutlineScript → List (ℕ × ℕ)
native_places scripts = native_places_of 0 scripts

abbrev pub IsFunctionAt : List OutlineScript → ℕ → ℕ → OutlineFunction → Type 0
IsFunctionAt scripts script place function = slice_get (functions_in (slice_get scripts script)) place ≡ Some function

-- the native at this place may do this, with so many devices
pub record IsAllowed (scripts : List OutlineScript) (devices script place : ℕ) (binding : Binding) : Type 0 where
  pub function : OutlineFunction
  pub there : IsFunctionAt scripts script place function
  pub is_native : function.is_native ≡ true
  pub types : AllowsBinding function.parameters.items function.result binding
  pub device : HasDevice devices binding
