-- What small files mean, computed from the definitions.
use Prim.Native.String.{String}
use Rattle.std.proofs.Common.{◌≡◌, ℕ, true, false, List, [], ◌∷◌, map, Option, Some, None, refl}
use Rattle.std.specs.Prelude.{codes, pos, negsuc, bytes_eq, slice_get, option_map}
use Rattle.std.specs.List.{position_or_len}
use Rattle.core_tree.specs.declared.core_type.CoreType.{CoreType}
use Rattle.core_tree.specs.declared.core_type.CoreType.TheVariants as kinds
use Rattle.core_tree.specs.declared.outline.OutlineProperty.{OutlineProperty}
use Rattle.core_tree.specs.declared.scene_tree.Binding.TheVariants as bindings
use Rattle.core_tree.specs.declared.value.Value.TheVariants as values
use Rattle.core_tree.specs.Outlines.{ScriptShape}
use Rattle.core_tree.specs.Scenes.{SceneShape, Round}
use Rattle.pex_values.specs.declared.values.Datum.{Datum}
use Rattle.pex_values.specs.declared.values.Datum.TheVariants as datum
use Rattle.pex_values.specs.declared.values.PexVariable.{PexVariable}
use Rattle.pex_values.specs.declared.values.SizeForm.TheVariants.{Counted}
use Rattle.pex_values.specs.Plain.{PlainFunction, PlainInstruction, PlainLines, PlainObject, PlainPex, PlainProperty, PlainState}
use Rattle.script_meaning.specs.World.{World, Line, Traced}
use Rattle.code_meaning.specs.Code.{Operand, Literal, Slot, Variable, Itself, StateText, Function, Auto, Full, State, Script}
use Rattle.code_meaning.specs.Code as op
use Rattle.pex_meaning.specs.Meant.{outline_meant, scripts_meant, pex_run}
use Rattle.pex_meaning.specs.Names.{type_named}

-- ---- how the files are written
abbrev strings : List (List ℕ)
strings =
    map codes
    ("" ∷ "Abacus" ∷ "Form" ∷ "Int" ∷ "None" ∷ "Count" ∷ "::temp0" ∷ "::temp1" ∷ "::NoneVar" ∷ "Total" ∷ "Loud" ∷ "::Limit_var" ∷ "Limit"
    ∷ "Half" ∷ "Bool" ∷ "COUNT" ∷ "OnEndState" ∷ "Busy" ∷ "self" ∷ "total" ∷ "debug" ∷ "Trace" ∷ "hello" ∷ [])

abbrev at : String → ℕ
at string = position_or_len (bytes_eq (codes string)) strings

abbrev word : String → Datum
word name = datum.Word (at name)

abbrev code : ℕ → List Datum → List Datum → PlainInstruction
code opcode fixed more = record { opcode = opcode; fixed = fixed; more = more }

abbrev function : String → List (ℕ × ℕ) → List (ℕ × ℕ) → List PlainInstruction → PlainFunction
function result parameters locals instructions = record {
  result = at result;
  doc = 0;
  flags = 0;
  bits = 0;
  parameters = parameters;
  locals = locals;
  code = instructions;
}

abbrev variable : String → String → Datum → PexVariable
variable name kind value = record { name = at name; kind = at kind; flags = 0; value = value }

abbrev state : String → List (ℕ × PlainFunction) → PlainState
state name functions = record { name = at name; functions = functions }

abbrev object : String → String → List PexVariable → List PlainProperty → List PlainState → PlainObject
object parent auto_state variables properties states = record {
  name = at "Abacus";
  size_form = Counted;
  parent = at parent;
  doc = 0;
  flags = 0;
  auto_state = at auto_state;
  variables = variables;
  properties = properties;
  states = states;
}

abbrev entry : String → ℕ → List ℕ → PlainLines
entry name kind lines = record { object = at "Abacus"; state = 0; function = at name; kind = kind; lines = lines }

-- a set of one file with one object
abbrev file : List PlainLines → PlainObject → List PlainPex
file entries it = record {
  minor = 2;
  time = 0;
  source = [];
  user = [];
  machine = [];
  strings = strings;
  debug = Some (record { time = 0; functions = entries });
  user_flags = [];
  objects = it ∷ [];
} ∷ []

-- the script behind the six of the prelude
abbrev script_of : List PlainPex → Option Script
script_of files = slice_get (scripts_meant files) 6

abbrev shape_of : List PlainPex → Option ScriptShape
shape_of files = slice_get (outline_meant files) 6

abbrev state_meant : String → List Function → State
state_meant name functions = record { name = codes name; functions = functions }

-- ---- a function of three instructions: isub, assign and callstatic
abbrev count : PlainFunction
count =
    function "None" ((at "::temp0", at "Int") ∷ []) ((at "::temp1", at "Int") ∷ (at "::NoneVar", at "None") ∷ [])
    (code 0x03 (word "::temp1" ∷ word "total" ∷ word "::temp0" ∷ []) []
    ∷ code 0x0D (word "Total" ∷ word "::temp1" ∷ []) []
    ∷ code 0x19 (word "debug" ∷ word "Trace" ∷ word "::NoneVar" ∷ []) (datum.Quoted (at "hello") ∷ datum.Int (pos 0) ∷ []) ∷ [])

-- the entry of a property is passed over, that of the function has its name in another case, and it is one line short
abbrev counting : List PlainPex
counting =
    file (entry "Count" 1 (9 ∷ []) ∷ entry "COUNT" 0 (5 ∷ 5 ∷ []) ∷ entry "Count" 0 (1 ∷ 2 ∷ 3 ∷ []) ∷ [])
    (object "Form" "Busy"
    (variable "Total" "Int" datum.NoneValue ∷ variable "Loud" "Bool" (datum.Bool 7) ∷ [])
    [] (state "" ((at "Count", count) ∷ []) ∷ state "Busy" [] ∷ []))

abbrev count_meant : Function
count_meant = record {
  name = codes "Count";
  parameters = kinds.Int ∷ [];
  locals = Some kinds.Int ∷ None ∷ [];
  result = None;
  is_global = false;
  is_native = false;
  code =
      op.ISub (Slot 1) (Variable 0) (Slot 0)
      ∷ op.Assign (Variable 0) (Slot 1)
      ∷ op.CallStatic 0 (codes "Trace") (Slot 2) (Literal (values.Text (codes "hello")) ∷ Literal (values.Int (pos 0)) ∷ []) ∷ [];
  lines = 5 ∷ 5 ∷ 0 ∷ [];
}

-- its parent has the members, so none is added
pub counts : script_of counting ≡ Some (record { properties = []; states = state_meant "" (count_meant ∷ []) ∷ state_meant "Busy" [] ∷ [] })
counts = refl

abbrev counts_shape : ScriptShape
counts_shape = record {
  name = codes "Abacus";
  parent = Some 3;
  auto_state = Some (codes "Busy");
  variables =
      record { name = codes "Total"; kind = kinds.Int; value = values.Int (pos 0) }
      ∷ record { name = codes "Loud"; kind = kinds.Bool; value = values.Bool true } ∷ [];
  properties = [];
  functions = record { name = codes "Count"; parameters = kinds.Int ∷ []; result = None; is_global = false; is_native = false } ∷ [];
}

pub counts_outlined : shape_of counting ≡ Some counts_shape
counts_outlined = refl

-- one call of it on an instance
abbrev scene : SceneShape
scene = record {
  instances = record { name = codes "it"; script = 6; set = [] } ∷ [];
  calls = record { turn = 0; instance = 0; function = codes "count"; arguments = values.Int (pos 3) ∷ [] } ∷ [];
  natives = record { script = 0; function = 0; binding = bindings.Trace 0 } ∷ [];
  tapes = [];
  devices = 0;
  order = Round;
  turns = 100;
  quantum = 1;
}

abbrev hello : List Line
hello = Traced 0 (codes "hello") ∷ []

-- the number of turns, the stacks that are done, and the lines
abbrev glance : World → ℕ × List ℕ × List Line
glance world = (world.turn, world.done, world.output)

-- the trace ends turn 0, and the end of the function turn 1
pub counts_in_a_run : map glance (pex_run counting scene [] 5) ≡ (0, [], []) ∷ (1, [], hello) ∷ (2, 0 ∷ [], hello) ∷ []
counts_in_a_run = refl

-- ---- properties: one that is read alone, of a variable, and one that is read by a function
abbrev half : PlainFunction
half = function "Bool" [] [] (code 0x1A (datum.Bool 1 ∷ []) [] ∷ [])

abbrev limit_property : PlainProperty
limit_property = record {
  name = at "Limit";
  kind = at "Int";
  doc = 0;
  flags = 0;
  bits = 5;
  variable = Some (at "::Limit_var");
  read = None;
  write = None;
}

abbrev half_property : PlainProperty
half_property = record {
  name = at "Half";
  kind = at "Bool";
  doc = 0;
  flags = 0;
  bits = 1;
  variable = None;
  read = Some half;
  write = None;
}

abbrev having : List PlainPex
having =
    file (entry "Half" 1 (8 ∷ 9 ∷ []) ∷ [])
    (object "Form" ""
    (variable "Total" "Int" datum.NoneValue ∷ variable "::Limit_var" "Int" (datum.Int (negsuc 4)) ∷ [])
    (limit_property ∷ half_property ∷ []) [])

abbrev half_meant : Function
half_meant = record {
  name = codes "Half";
  parameters = [];
  locals = [];
  result = Some kinds.Bool;
  is_global = false;
  is_native = false;
  code = op.Return (Literal (values.Bool true)) ∷ [];
  lines = 8 ∷ [];
}

abbrev having_meant : Script
having_meant = record {
  properties =
      record { name = codes "Limit"; access = Auto 1 true false }
      ∷ record { name = codes "Half"; access = Full (Some half_meant) None } ∷ [];
  states = [];
}

pub has_properties : script_of having ≡ Some having_meant
has_properties = refl

abbrev limit_shape : OutlineProperty
limit_shape = record { name = codes "Limit"; kind = kinds.Int; variable = 1 }

pub has_properties_outlined : option_map (λ script. script.properties) (shape_of having) ≡ Some (limit_shape ∷ [])
has_properties_outlined = refl

-- ---- a script without parent, which has one of the members itself, and a variable that hides `self` in the others
abbrev lone : List PlainPex
lone =
    file []
    (object "" "" (variable "self" "Abacus" datum.NoneValue ∷ []) []
    (state "Busy" [] ∷ state "" ((at "OnEndState", function "None" [] [] []) ∷ []) ∷ state "Half" [] ∷ []))

abbrev event_meant : String → Function
event_meant name = record {
  name = codes name;
  parameters = [];
  locals = [];
  result = None;
  is_global = false;
  is_native = false;
  code = [];
  lines = [];
}

-- where `self` means this
abbrev goto_state_meant : Operand → Function
goto_state_meant self = record {
  name = codes "GotoState";
  parameters = kinds.Text ∷ [];
  locals = None ∷ [];
  result = None;
  is_global = false;
  is_native = false;
  code =
      op.CallMethod (codes "OnEndState") self (Slot 1) []
      ∷ op.Assign StateText (Slot 0)
      ∷ op.CallMethod (codes "OnBeginState") self (Slot 1) [] ∷ [];
  lines = 0 ∷ 0 ∷ 0 ∷ [];
}

abbrev get_state_meant : Function
get_state_meant = record {
  name = codes "GetState";
  parameters = [];
  locals = [];
  result = Some kinds.Text;
  is_global = false;
  is_native = false;
  code = op.Return StateText ∷ [];
  lines = 0 ∷ [];
}

abbrev states_of : Option Script → Option (List State)
states_of script = option_map (λ script. script.states) script

abbrev three_more : List Function
three_more = goto_state_meant (Variable 0) ∷ get_state_meant ∷ event_meant "OnBeginState" ∷ []

abbrev lone_states : List State
lone_states = state_meant "Busy" [] ∷ state_meant "" (event_meant "OnEndState" ∷ three_more) ∷ state_meant "Half" [] ∷ []

pub lacks_three : states_of (script_of lone) ≡ Some lone_states
lacks_three = refl

abbrev four_members : List Function
four_members = goto_state_meant Itself ∷ get_state_meant ∷ event_meant "OnBeginState" ∷ event_meant "OnEndState" ∷ []

-- one without an empty state
abbrev stateless : List PlainPex
stateless = file [] (object "" "" [] [] (state "Busy" [] ∷ []))

pub lacks_four : states_of (script_of stateless) ≡ Some (state_meant "Busy" [] ∷ state_meant "" four_members ∷ [])
lacks_four = refl

-- ---- the prelude
abbrev prelude_names : List (List ℕ)
prelude_names = map codes ("Debug" ∷ "Utility" ∷ "Scene" ∷ "Form" ∷ "Quest" ∷ "ObjectReference" ∷ [])

pub of_prelude : map (λ shape. shape.name) (outline_meant []) ≡ prelude_names
of_prelude = refl

pub parents_of_prelude : map (λ shape. shape.parent) (outline_meant []) ≡ None ∷ None ∷ None ∷ None ∷ Some 3 ∷ Some 3 ∷ []
parents_of_prelude = refl

abbrev random_int_meant : Function
random_int_meant = record {
  name = codes "RandomInt";
  parameters = kinds.Int ∷ kinds.Int ∷ [];
  locals = [];
  result = Some kinds.Int;
  is_global = true;
  is_native = true;
  code = [];
  lines = [];
}

pub native_of_prelude : slice_get (scripts_meant []) 1 ≡ Some (record { properties = []; states = state_meant "" (random_int_meant ∷ []) ∷ [] })
native_of_prelude = refl

pub members_of_prelude : states_of (slice_get (scripts_meant []) 3) ≡ Some (state_meant "" four_members ∷ [])
members_of_prelude = refl

-- ---- types
abbrev scripts : List (List ℕ)
scripts = map codes ("Bag" ∷ "Int" ∷ "Box[]" ∷ "none" ∷ "bag" ∷ [])

abbrev names : List (List ℕ)
names = map codes ("INT" ∷ "string[]" ∷ "bag" ∷ "BAG[]" ∷ "box[]" ∷ "box[][]" ∷ "None" ∷ [])

abbrev types_of_names : List (Option CoreType)
types_of_names =
    Some kinds.Int ∷ Some kinds.TextArray
    ∷ Some (kinds.Script 0) ∷ Some (kinds.ScriptArray 0)
    ∷ Some (kinds.Script 2) ∷ Some (kinds.ScriptArray 2) ∷ None ∷ []

pub types : map (type_named scripts) names ≡ types_of_names
types = refl
