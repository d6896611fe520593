-- Where functions and properties of loaded scripts are found, with case ignored.
use Rattle.std.specs.Prelude.{ℕ, suc, ◌==◌, Bool, if◌then◌else◌, List, [], ◌∷◌, ◌++◌, length, map, Option, Some, None, slice_get}
use Rattle.std.specs.Option.{option_and_then, option_or}
use Rattle.std.specs.Str.{str_eq_ignore_ascii_case}
use Rattle.core_tree.specs.declared.expression.FunctionPlace.{FunctionPlace}
use Rattle.core_tree.specs.declared.value.Value.{Value}
use Rattle.core_tree.specs.Outlines.{ScriptShape}
use Rattle.script_meaning.specs.Stacks.{Way, ByMethod, ByParent, ByGlobal, ByGet, BySet, Entered, Opened, NativeThere, ReadThere, WriteThere, NothingThere}
use Rattle.script_meaning.specs.Values.{lineage, parent_in}
use Rattle.core_tree.specs.Values.{default_result}
use Rattle.code_meaning.specs.Code.{Function, Access, Auto, Full, Property, State, Script}

-- ---- bodies
-- where the function of a body stands: by the numbers of its script, of the state in the script and of
-- the function in the state, or by those of the script and of the property that it reads or writes
pub data BodyPlace : Type 0 where
  OfState : (script state function : ℕ) → BodyPlace
  OfGet : (script property : ℕ) → BodyPlace
  OfSet : (script property : ℕ) → BodyPlace

-- a running body: its function, the number of the instruction that comes next or whose reply it waits
-- for, and the values of its parameters and of the locals behind them
pub record Body : Type 0 where
  pub place : BodyPlace
  pub instruction : ℕ
  pub slots : List Value

abbrev pub script_of : BodyPlace → ℕ
script_of (OfState script state function) = script
script_of (OfGet script property) = script
script_of (OfSet script property) = script

abbrev pub states_in : Option Script → List State
states_in None = []
states_in (Some script) = script.states

abbrev pub properties_in : Option Script → List Property
properties_in None = []
properties_in (Some script) = script.properties

abbrev pub functions_in : Option State → List Function
functions_in None = []
functions_in (Some state) = state.functions

abbrev pub reader_in : Access → Option Function
reader_in (Auto variable is_read is_written) = None
reader_in (Full read write) = read

abbrev pub writer_in : Access → Option Function
writer_in (Auto variable is_read is_written) = None
writer_in (Full read write) = write

-- the function at a place
abbrev pub function_at : List Script → BodyPlace → Option Function
function_at scripts (OfState script state function) =
    slice_get (functions_in (slice_get (states_in (slice_get scripts script)) state)) function
function_at scripts (OfGet script property) =
    option_and_then (λ found. reader_in found.access) (slice_get (properties_in (slice_get scripts script)) property)
function_at scripts (OfSet script property) =
    option_and_then (λ found. writer_in found.access) (slice_get (properties_in (slice_get scripts script)) property)

-- ---- the first of a list
abbrev pub one_on : {X : Type 0} → Option (ℕ × X) → Option (ℕ × X)
one_on None = None
one_on (Some (number, found)) = Some (suc number, found)

-- the first that passes the test, after its number
abbrev pub numbered : {X : Type 0} → (X → Bool) → List X → Option (ℕ × X)
numbered test [] = None
numbered test (first ∷ rest) = if test first then Some (0, first) else one_on (numbered test rest)

-- ---- methods
-- a function of a state that was found, by the numbers of its place
pub record FoundMethod : Type 0 where
  pub script : ℕ
  pub state : ℕ
  pub number : ℕ
  pub function : Function

abbrev pub method_at : ℕ → ℕ → Option (ℕ × Function) → Option FoundMethod
method_at script state None = None
method_at script state (Some (number, function)) =
    Some (record { script = script; state = state; number = number; function = function })

abbrev pub method_of_state : ℕ → List ℕ → Option (ℕ × State) → Option FoundMethod
method_of_state script name None = None
method_of_state script name (Some (number, state)) =
    method_at script number (numbered (λ function. str_eq_ignore_ascii_case function.name name) state.functions)

abbrev pub method_of_script : List Script → List ℕ → List ℕ → ℕ → Option FoundMethod
method_of_script scripts state name script =
    method_of_state script name (numbered (λ found. str_eq_ignore_ascii_case found.name state) (states_in (slice_get scripts script)))

-- the function that the state of this name has in the first of these scripts that has one
abbrev pub first_method : List Script → List ℕ → List ℕ → List ℕ → Option FoundMethod
first_method scripts [] state name = None
first_method scripts (script ∷ above) state name =
    option_or (method_of_script scripts state name script) (first_method scripts above state name)

-- in the state of this name from the first script upward, and then in the empty states
abbrev pub method_in : List Script → List ℕ → List ℕ → List ℕ → Option FoundMethod
method_in scripts upward state name = option_or (first_method scripts upward state name) (first_method scripts upward [] name)

-- a native function is known by its script and its number in the empty state
abbrev pub native_at : FoundMethod → FunctionPlace
native_at method = record { script = method.script; place = method.number }

-- the arguments are the parameters' values, and the locals begin with their defaults
abbrev pub body_of : BodyPlace → List Value → Function → Body
body_of place arguments function =
    record { place = place; instruction = 0; slots = arguments ++ map default_result function.locals }

-- a body opens with as many arguments as its function has parameters
abbrev pub opened : BodyPlace → List Value → Function → Entered Body
opened place arguments function =
    if length arguments == length function.parameters then Opened (body_of place arguments function) else NothingThere

abbrev pub method_entered : List Value → Option FoundMethod → Entered Body
method_entered arguments None = NothingThere
method_entered arguments (Some method) =
    if method.function.is_native then NativeThere (native_at method) else opened (OfState method.script method.state method.number) arguments method.function

-- ---- properties
abbrev pub property_at : ℕ → Option (ℕ × Property) → Option (ℕ × ℕ × Access)
property_at script None = None
property_at script (Some (number, property)) = Some (script, number, property.access)

-- the script, the number and the access of the property
abbrev pub first_property : List Script → List ℕ → List ℕ → Option (ℕ × ℕ × Access)
first_property scripts [] name = None
first_property scripts (script ∷ above) name =
    option_or (property_at script (numbered (λ property. str_eq_ignore_ascii_case property.name name) (properties_in (slice_get scripts script)))) (first_property scripts above name)

abbrev pub accessor_entered : BodyPlace → List Value → Option Function → Entered Body
accessor_entered place arguments None = NothingThere
accessor_entered place arguments (Some function) = opened place arguments function

abbrev pub get_entered : Option (ℕ × ℕ × Access) → Entered Body
get_entered None = NothingThere
get_entered (Some (script, number, Auto variable is_read is_written)) =
    if is_read then ReadThere script variable else NothingThere
get_entered (Some (script, number, Full read write)) = accessor_entered (OfGet script number) [] read

abbrev pub set_entered : List Value → Option (ℕ × ℕ × Access) → Entered Body
set_entered arguments None = NothingThere
set_entered arguments (Some (script, number, Auto variable is_read is_written)) =
    if is_written then WriteThere script variable else NothingThere
set_entered arguments (Some (script, number, Full read write)) = accessor_entered (OfSet script number) arguments write

-- ---- entering
abbrev pub enter_code : List ScriptShape → List Script → Option ℕ → List ℕ → Way → List Value → Entered Body
enter_code outline scripts script state (ByMethod name) arguments =
    method_entered arguments (method_in scripts (lineage outline script) state name)
enter_code outline scripts script state (ByParent calling name) arguments =
    method_entered arguments (method_in scripts (lineage outline (parent_in (slice_get outline calling))) state name)
enter_code outline scripts script state (ByGlobal library name) arguments =
    method_entered arguments (first_method scripts (lineage outline (Some library)) [] name)
enter_code outline scripts script state (ByGet name) arguments =
    get_entered (first_property scripts (lineage outline script) name)
enter_code outline scripts script state (BySet name) arguments =
    set_entered arguments (first_property scripts (lineage outline script) name)
