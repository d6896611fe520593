-- What the files of a verified set mean: its outline, its scripts with their properties, states and functions, and its runs.
use Rattle.std.specs.Prelude.{ℕ, ◌==◌, Bool, ◌&&◌, not, if◌then◌else◌, List, [], ◌∷◌, ◌++◌, length, map, replicate, filter, Option, None, Some, option_map, option_and_then, unwrap_or}
use Rattle.std.specs.List.{filter_map, flat_map, list_any}
use Rattle.core_tree.specs.declared.core_type.CoreType.{CoreType}
use Rattle.core_tree.specs.declared.DeviceKind.{DeviceKind}
use Rattle.core_tree.specs.declared.outline.OutlineProperty.{OutlineProperty}
use Rattle.core_tree.specs.declared.outline.OutlineVariable.{OutlineVariable}
use Rattle.core_tree.specs.declared.value.Value.{Value}
use Rattle.core_tree.specs.declared.value.Value.TheVariants as values
use Rattle.core_tree.specs.Outlines.{FunctionShape, ScriptShape}
use Rattle.core_tree.specs.Scenes.{SceneShape}
use Rattle.core_tree.specs.Values.{default_of}
use Rattle.pex_values.specs.declared.values.Datum.{Datum}
use Rattle.pex_values.specs.declared.values.Datum.TheVariants as datum
use Rattle.pex_values.specs.declared.values.PexVariable.{PexVariable}
use Rattle.pex_values.specs.Plain.{PlainFunction, PlainPex, PlainProperty, PlainState}
use Rattle.script_meaning.specs.World.{World}
use Rattle.code_meaning.specs.Code.{Function, Access, Auto, Full, Property, State, Script}
use Rattle.code_meaning.specs.Engine.{code_run}
use Rattle.pex_meaning.specs.Prelude.{prelude, members, libraries}
use Rattle.pex_meaning.specs.Names.{string_at, first_named, is_among, is_empty, script_names, value_type}
use Rattle.pex_meaning.specs.Functions.{Home, string, variable_names, has_bit, function_meant, own_function}

-- ---- properties
-- the number of the variable of a name
abbrev pub variable_meant : Home → ℕ → ℕ
variable_meant home reference = unwrap_or (first_named (string home reference) (variable_names home)) 0

abbrev pub accessor_meant : Home → ℕ → ℕ → Option PlainFunction → Option Function
accessor_meant home kind name function = option_map (own_function home kind [] (string home name)) function

-- bit 1 is read and bit 2 is write
abbrev pub access_meant : Home → PlainProperty → Option ℕ → Access
access_meant home property (Some variable) =
    Auto (variable_meant home variable) (has_bit property.bits 1) (has_bit property.bits 2)
access_meant home property None =
    Full (accessor_meant home 1 property.name property.read) (accessor_meant home 2 property.name property.write)

abbrev pub property_meant : Home → PlainProperty → Property
property_meant home property =
    record { name = string home property.name; access = access_meant home property property.variable }

-- ---- states, as the file has them
abbrev pub method_meant : Home → List ℕ → ℕ × PlainFunction → Function
method_meant home state function = own_function home 0 state (string home function.0) function.1

abbrev pub own_state : Home → PlainState → State
own_state home state =
    record { name = string home state.name; functions = map (method_meant home (string home state.name)) state.functions }

abbrev pub own_states : Home → List State
own_states home = map (own_state home) home.object.states

abbrev pub is_empty_state : State → Bool
is_empty_state state = is_empty state.name

-- a verified object has one empty state at most
abbrev pub empty_state_functions : List State → List Function
empty_state_functions states = flat_map (λ state. state.functions) (filter is_empty_state states)

-- ---- members of scripts without parent
-- one of the four, read as if the object had it, with no lines told
abbrev pub member_meant : Home → ℕ × PlainFunction → Function
member_meant home member =
    function_meant home prelude.strings (string_at prelude.strings member.0) (replicate (length (member.1).code) 0) member.1

-- a script without parent that is no library has all four
abbrev pub lacks : Home → Function → Bool
lacks home member =
    is_empty (string home home.object.parent)
    && not (is_among (string home home.object.name) libraries)
    && not (is_among member.name (map (λ function. function.name) (empty_state_functions (own_states home))))

abbrev pub lacking : Home → List Function
lacking home = filter (lacks home) (map (member_meant home) members)

abbrev pub with_last : List Function → State → State
with_last functions state = if is_empty_state state then record state { functions = state.functions ++ functions } else state

abbrev pub empty_state : List Function → List State
empty_state [] = []
empty_state (first ∷ rest) = record { name = []; functions = first ∷ rest } ∷ []

-- the members that it lacks stand last in the empty state. Where there is none, they make one behind the other states
abbrev pub states_meant : Home → List State
states_meant home =
    if list_any is_empty_state (own_states home)
    then map (with_last (lacking home)) (own_states home)
    else own_states home ++ empty_state (lacking home)

abbrev pub script_meant : Home → Script
script_meant home =
    record { properties = map (property_meant home) home.object.properties; states = states_meant home }

-- ---- the outline
-- an initial value. One that the file leaves out is the default of the type
abbrev pub value_meant : Home → CoreType → Datum → Value
value_meant home kind (datum.Quoted reference) = values.Text (string home reference)
value_meant home kind (datum.Int number) = values.Int number
value_meant home kind (datum.Bool byte) = values.Bool (not (byte == 0))
value_meant home kind _ = default_of kind

abbrev pub variable_outlined : Home → PexVariable → OutlineVariable
variable_outlined home variable =
    let kind = value_type home.scripts (string home variable.kind) in
    record { name = string home variable.name; kind = kind; value = value_meant home kind variable.value }

-- a property, where it is one of this variable
abbrev pub property_outlined : Home → PlainProperty → Option OutlineProperty
property_outlined home property =
    option_map (λ variable. record {
      name = string home property.name;
      kind = value_type home.scripts (string home property.kind);
      variable = variable_meant home variable;
    }) property.variable

abbrev pub function_outlined : Function → FunctionShape
function_outlined function = record {
  name = function.name;
  parameters = function.parameters;
  result = function.result;
  is_global = function.is_global;
  is_native = function.is_native;
}

abbrev pub unless_empty : List ℕ → Option (List ℕ)
unless_empty name = if is_empty name then None else Some name

abbrev pub script_outlined : Home → ScriptShape
script_outlined home = record {
  name = string home home.object.name;
  parent = option_and_then (λ parent. first_named parent home.scripts) (unless_empty (string home home.object.parent));
  auto_state = unless_empty (string home home.object.auto_state);
  variables = map (variable_outlined home) home.object.variables;
  properties = filter_map (property_outlined home) home.object.properties;
  functions = map function_outlined (empty_state_functions (states_meant home));
}

-- ---- sets
abbrev pub homes_in : List (List ℕ) → PlainPex → List Home
homes_in scripts file = map (λ object. record { scripts = scripts; file = file; object = object }) file.objects

-- by the numbers of the scripts, in the order of their names
abbrev pub homes_of : List PlainPex → List Home
homes_of files = flat_map (homes_in (script_names files)) (prelude ∷ files)

-- what a scene and a run see of the scripts of these files
abbrev pub outline_meant : List PlainPex → List ScriptShape
outline_meant files = map script_outlined (homes_of files)

-- the scripts that run
abbrev pub scripts_meant : List PlainPex → List Script
scripts_meant files = map script_meant (homes_of files)

-- the worlds of a run of at most so many turns, from the first one on
abbrev pub pex_run : List PlainPex → SceneShape → List DeviceKind → ℕ → List World
pex_run files scene kinds turns = code_run (outline_meant files) (scripts_meant files) scene kinds turns
