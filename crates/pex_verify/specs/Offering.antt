-- What the scripts of a set that was verified offer, in every state.
use Rattle.std.specs.Prelude.{◌≡◌, ℕ, ◌<◌, true, List, [], ◌∷◌, map, Some, slice_get, if◌then◌else◌}
use Rattle.std.specs.Str.{str_eq_ignore_ascii_case}
use Rattle.core_tree.specs.Outlines.{FunctionShape, ScriptShape}
use Rattle.code_meaning.specs.Code.{Function, State, Script}
use Rattle.code_meaning.specs.LookUp.{FoundMethod, first_method, method_in, states_in}
use Rattle.run_laws.specs.TypedCode.{MethodMeets}
use Rattle.script_meaning.specs.Requests.{functions_in}
use Rattle.script_meaning.specs.Values.{lineage}

-- what an outline keeps of a function
abbrev pub shape_of : Function → FunctionShape
shape_of function =
    record { name = function.name; parameters = function.parameters; result = function.result; is_global = function.is_global; is_native = function.is_native }

-- the functions of the first state without name
abbrev pub empty_functions : List State → List Function
empty_functions [] = []
empty_functions (state ∷ rest) =
    if str_eq_ignore_ascii_case state.name [] then state.functions else empty_functions rest

-- the outline of each script tells the functions of its empty state, in order
abbrev pub TellsFunctions : List ScriptShape → List Script → Type 0
TellsFunctions outline scripts =
    (script : ℕ) → functions_in (slice_get outline script) ≡ map shape_of (empty_functions (states_in (slice_get scripts script)))

-- what an empty state offers from a script upward has its parameters and its result in every state
abbrev pub KeepsTypes : List ScriptShape → List Script → Type 0
KeepsTypes outline scripts =
    (script : ℕ) (name : List ℕ) (method : FoundMethod) → first_method scripts (lineage outline (Some script)) [] name ≡ Some method
    → (state : List ℕ) → MethodMeets outline method.function.is_global method.function.parameters method.function.result (method_in scripts (lineage outline (Some script)) state name)

-- the places of native functions have 16 bits
abbrev pub HavePlaces : List ScriptShape → Type 0
HavePlaces outline =
    (script place : ℕ) (function : FunctionShape) → slice_get (functions_in (slice_get outline script)) place ≡ Some function → function.is_native ≡ true → place < 65536
