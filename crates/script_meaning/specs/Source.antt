-- The engine of the typed trees, and the runs of a script set.
use Rattle.std.specs.Prelude.{ℕ, ◌==◌, Bool, if◌then◌else◌, List, [], ◌∷◌, ◌++◌, length, map, position, Option, Some, None, slice_get}
use Rattle.std.specs.List.{find}
use Rattle.std.specs.Str.{str_eq_ignore_ascii_case}
use Rattle.core_tree.specs.declared.DeviceKind.{DeviceKind}
use Rattle.core_tree.specs.declared.expression.FunctionPlace.{FunctionPlace}
use Rattle.core_tree.specs.declared.value.Value.{Value}
use Rattle.core_tree.specs.declared.value.Value.TheVariants.{NoneValue}
use Rattle.core_tree.specs.declared.script.CoreSet.{CoreSet}
use Rattle.core_tree.specs.Outlines.{ScriptShape, script_outline}
use Rattle.core_tree.specs.Scenes.{SceneShape}
use Rattle.core_tree.specs.Set.{Script, Function, State as ScriptState, Property, Access, Auto, Full, scripts_of}
use Rattle.script_meaning.specs.Evaluation.{Home, Pending, Statements, Outcome, Gives, Stops, functions_at, resumed}
use Rattle.script_meaning.specs.First.{first_state}
use Rattle.script_meaning.specs.Requests.{Sight, Setting, Return}
use Rattle.script_meaning.specs.Stacks.{Way, ByMethod, ByParent, ByGlobal, ByGet, BySet, Entered, Opened, NativeThere, ReadThere, WriteThere, NothingThere, Stop, Engine}
use Rattle.script_meaning.specs.Turns.{states_from}
use Rattle.script_meaning.specs.Values.{lineage, parent_in}
use Rattle.core_tree.specs.Values.{default_of, default_result}
use Rattle.script_meaning.specs.World.{World}

-- a running body: its script and the name of its function or property, what its end returns, its
-- parameters and locals, its line, and what is pending, the innermost first
pub record Body : Type 0 where
  pub script : ℕ
  pub function : List ℕ
  pub ending : Value
  pub locals : List Value
  pub line : ℕ
  pub pending : List Pending

-- ---- running
abbrev pub home_of : List Script → Setting → Body → Home
home_of scripts setting body =
    record { setting = setting; scripts = scripts; script = body.script; function = body.function }

abbrev pub stop_at : Body → Outcome → Stop Body
stop_at body (Gives value inner) = record {
  request = Return body.ending;
  body = record body { locals = inner.locals; line = inner.line; pending = [] };
  sight = inner.sight;
}
stop_at body (Stops request pending inner) = record {
  request = request;
  body = record body { locals = inner.locals; line = inner.line; pending = pending };
  sight = inner.sight;
}

abbrev pub reply_or_none : Option Value → Value
reply_or_none None = NoneValue
reply_or_none (Some value) = value

-- the end of a body is a Return of the default of its result's type
abbrev pub run_body : List Script → Setting → Body → Option Value → Sight → Stop Body
run_body scripts setting body reply sight =
    stop_at body (resumed (home_of scripts setting body) body.pending (reply_or_none reply) (record { locals = body.locals; line = body.line; sight = sight }))

-- ---- look-up, with case ignored
abbrev pub body_of : ℕ → List ℕ → Function → List Value → Body
body_of script name function arguments =
    record { script = script; function = name; ending = default_result function.result; locals = arguments ++ map default_of function.locals; line = 0; pending = Statements function.body ∷ [] }

-- a body opens with as many arguments as its function has parameters
abbrev pub opened : ℕ → List ℕ → Function → List Value → Entered Body
opened script name function arguments =
    if length arguments == length function.parameters then Opened (body_of script name function arguments) else NothingThere

abbrev pub named : List ℕ → Function → Bool
named name function = str_eq_ignore_ascii_case function.name name

abbrev pub functions_of_state : List ScriptState → List ℕ → List Function
functions_of_state [] state = []
functions_of_state (first ∷ rest) state =
    if str_eq_ignore_ascii_case first.name state then first.functions else functions_of_state rest state

abbrev pub state_functions : Option Script → List ℕ → List Function
state_functions None state = []
state_functions (Some script) state = functions_of_state script.states state

abbrev pub with_script : {X : Type 0} → ℕ → Option X → Option (ℕ × X)
with_script script None = None
with_script script (Some found) = Some (script, found)

abbrev pub or_else_found : {X : Type 0} → Option (ℕ × X) → Option (ℕ × X) → Option (ℕ × X)
or_else_found (Some found) other = Some found
or_else_found None other = other

-- the first of these scripts whose functions have one of the name
abbrev pub first_function : (ℕ → List Function) → List ℕ → List ℕ → Option (ℕ × Function)
first_function functions [] name = None
first_function functions (script ∷ above) name =
    or_else_found (with_script script (find (named name) (functions script))) (first_function functions above name)

abbrev pub first_empty : List Script → List ℕ → List ℕ → Option (ℕ × Function)
first_empty scripts upward name = first_function (functions_at scripts) upward name

-- in the state of this name from the first script upward, and then in the empty states
abbrev pub method_in : List Script → List ℕ → List ℕ → List ℕ → Option (ℕ × Function)
method_in scripts upward state name =
    or_else_found (first_function (λ script. state_functions (slice_get scripts script) state) upward name) (first_empty scripts upward name)

abbrev pub place_or_first : Option ℕ → ℕ
place_or_first None = 0
place_or_first (Some place) = place

-- a native function is known by its script and its place in the empty state
abbrev pub native_there : List Script → ℕ → List ℕ → FunctionPlace
native_there scripts script name =
    record { script = script; place = place_or_first (position (named name) (functions_at scripts script)) }

abbrev pub function_entered : List Script → List Value → Option (ℕ × Function) → Entered Body
function_entered scripts arguments None = NothingThere
function_entered scripts arguments (Some (script, function)) =
    if function.is_native then NativeThere (native_there scripts script function.name) else opened script function.name function arguments

-- ---- properties
abbrev pub properties_of : Option Script → List Property
properties_of None = []
properties_of (Some script) = script.properties

abbrev pub first_property : List Script → List ℕ → List ℕ → Option (ℕ × Property)
first_property scripts [] name = None
first_property scripts (script ∷ above) name =
    or_else_found (with_script script (find (λ property. str_eq_ignore_ascii_case property.name name) (properties_of (slice_get scripts script)))) (first_property scripts above name)

abbrev pub accessor_entered : ℕ → List ℕ → Option Function → List Value → Entered Body
accessor_entered script name None arguments = NothingThere
accessor_entered script name (Some function) arguments = opened script name function arguments

abbrev pub get_entered : ℕ → List ℕ → Access → Entered Body
get_entered script name (Auto variable) = ReadThere script variable
get_entered script name (Full read write) = accessor_entered script name read []

abbrev pub set_entered : ℕ → List ℕ → Access → List Value → Entered Body
set_entered script name (Auto variable) arguments = WriteThere script variable
set_entered script name (Full read write) arguments = accessor_entered script name write arguments

abbrev pub get_found : Option (ℕ × Property) → Entered Body
get_found None = NothingThere
get_found (Some (script, property)) = get_entered script property.name property.access

abbrev pub set_found : List Value → Option (ℕ × Property) → Entered Body
set_found arguments None = NothingThere
set_found arguments (Some (script, property)) = set_entered script property.name property.access arguments

-- ---- entering
abbrev pub enter_body : List ScriptShape → List Script → Option ℕ → List ℕ → Way → List Value → Entered Body
enter_body outline scripts script state (ByMethod name) arguments =
    function_entered scripts arguments (method_in scripts (lineage outline script) state name)
enter_body outline scripts script state (ByParent calling name) arguments =
    function_entered scripts arguments (method_in scripts (lineage outline (parent_in (slice_get outline calling))) state name)
enter_body outline scripts script state (ByGlobal library name) arguments =
    function_entered scripts arguments (first_empty scripts (lineage outline (Some library)) name)
enter_body outline scripts script state (ByGet name) arguments =
    get_found (first_property scripts (lineage outline script) name)
enter_body outline scripts script state (BySet name) arguments =
    set_found arguments (first_property scripts (lineage outline script) name)

abbrev pub source_engine : List ScriptShape → List Script → Engine Body
source_engine outline scripts = record { enter = enter_body outline scripts; run = run_body scripts }

-- the worlds of a run of at most so many turns, from the first one on
abbrev pub source_run : List ScriptShape → List Script → SceneShape → List DeviceKind → ℕ → List World
source_run outline scripts scene kinds turns =
    map (λ state. state.world) (states_from scene (source_engine outline scripts) turns (first_state outline scene kinds))

-- the run of a core set
abbrev pub run_of_set : CoreSet → SceneShape → List DeviceKind → ℕ → List World
run_of_set set scene kinds turns = source_run (map script_outline set.scripts.items) (scripts_of set) scene kinds turns
