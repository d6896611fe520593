-- What is found among loaded scripts.
use Rattle.std.specs.Prelude.{ℕ, ◌-◌, List, Option, Some, None, length, slice_get, IfSome}
use Rattle.std.specs.Option.{option_and_then, option_map, option_or}
use Rattle.core_tree.specs.declared.core_type.CoreType.{CoreType}
use Rattle.core_tree.specs.declared.core_type.CoreType.TheVariants as kinds
use Rattle.core_tree.specs.declared.outline.OutlineScript.{OutlineScript}
use Rattle.core_tree.specs.declared.scene_tree.Binding.{Binding}
use Rattle.std.specs.declared.alloc.Global.{Global}
use Rattle.std.specs.declared.vec.Vec.{Vec}
use Rattle.loaded_code.specs.declared.script.LoadedFunction.{LoadedFunction}
use Rattle.loaded_code.specs.declared.script.LoadedProperty.{LoadedProperty}
use Rattle.loaded_code.specs.declared.script.LoadedScript.{LoadedScript}
use Rattle.loaded_code.specs.declared.script.MethodPlace.{MethodPlace}
use Rattle.loaded_code.specs.declared.operand.Operand.{Operand}
use Rattle.loaded_code.specs.declared.operand.Operand.TheVariants as operands
use Rattle.loaded_code.specs.declared.script.PropertyPlace.{PropertyPlace}
use Rattle.pex_verify.specs.Coded.{IsCodedFunction}
use Rattle.body_runner.specs.declared.frame.LoadedBody.{LoadedBody}
use Rattle.body_runner.specs.declared.frame.LoadedBody.TheVariants as bodies

-- ---- functions and properties by their places
abbrev pub method_at : List LoadedScript → MethodPlace → Option LoadedFunction
method_at scripts at =
    option_and_then (λ script. option_and_then (λ state. slice_get state.1.items at.place) (slice_get script.states.items at.state)) (slice_get scripts at.script)

abbrev pub property_at : List LoadedScript → PropertyPlace → Option LoadedProperty
property_at scripts at =
    option_and_then (λ script. slice_get script.properties.items at.place) (slice_get scripts at.script)

-- the function that reads or writes a property: none where it has a variable, since it is Auto then
abbrev pub accessor_of : Option ℕ → Option LoadedFunction → Option LoadedFunction
accessor_of None function = function
accessor_of (Some variable) function = None

abbrev pub function_of : List LoadedScript → LoadedBody → Option LoadedFunction
function_of scripts (bodies.Method at) = method_at scripts at
function_of scripts (bodies.Reader at) = option_and_then (λ property. accessor_of property.variable property.read) (property_at scripts at)
function_of scripts (bodies.Writer at) = option_and_then (λ property. accessor_of property.variable property.write) (property_at scripts at)

-- the code of what reads and writes a property, in a set of so many scripts
pub record AreCodedAccessors (scripts : ℕ) (property : LoadedProperty) : Type 0 where
  pub read : IfSome property.read (IsCodedFunction scripts)
  pub write : IfSome property.write (IsCodedFunction scripts)

-- ---- the types of what operands store
abbrev pub slot_type : LoadedFunction → ℕ → Option CoreType
slot_type function number =
    option_or (option_map (λ parameter. parameter.1) (slice_get function.parameters.items number)) (option_and_then (λ slot. slot.1) (slice_get function.locals.items (number - length function.parameters.items)))

abbrev pub variable_type : List OutlineScript → ℕ → ℕ → Option CoreType
variable_type scripts script number =
    option_and_then (λ found. option_map (λ variable. variable.kind) (slice_get found.variables.items number)) (slice_get scripts script)

-- none where what is stored is dropped
abbrev pub type_of : List OutlineScript → ℕ → LoadedFunction → Operand → Option CoreType
type_of scripts script function operands.NoneValue = None
type_of scripts script function (operands.Quoted text) = None
type_of scripts script function (operands.Int number) = None
type_of scripts script function (operands.Bool truth) = None
type_of scripts script function (operands.Slot number) = slot_type function number
type_of scripts script function (operands.Variable number) = variable_type scripts script number
type_of scripts script function operands.Instance = Some (kinds.Script script)
type_of scripts script function operands.State = Some kinds.Text

-- ---- natives
-- what a native function of an empty state is bound to
abbrev pub binding_in : List (Vec (Option Binding) Global) → MethodPlace → Option Binding
binding_in natives at =
    option_and_then (λ functions. option_and_then (λ binding. binding) (slice_get functions.items at.place)) (slice_get natives at.script)
