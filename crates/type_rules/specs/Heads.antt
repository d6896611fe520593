-- What a set keeps of its files: the scripts, properties, states and functions, each in its place with
-- its name, its types, its flags and its documentation.
use Rattle.std.specs.Prelude.{ℕ, Bool, false, List, [], ◌∷◌, map, codes, filter, not, Option, Some, None, option_map, if◌then◌else◌}
use Rattle.std.specs.List.{last_or}
use Rattle.std.specs.Str.{str_eq_ignore_ascii_case}
use Rattle.core_tree.specs.declared.core_type.CoreType.{CoreType}
use Rattle.core_tree.specs.declared.script.CoreAccess.{CoreAccess}
use Rattle.core_tree.specs.declared.script.CoreAccess.TheVariants as accesses
use Rattle.core_tree.specs.declared.script.CoreFunction.{CoreFunction}
use Rattle.core_tree.specs.declared.script.CoreProperty.{CoreProperty}
use Rattle.core_tree.specs.declared.script.CoreScript.{CoreScript}
use Rattle.core_tree.specs.declared.script.CoreState.{CoreState}
use Rattle.line_parser.specs.declared.tree.Parameter.{Parameter}
use Rattle.line_parser.specs.declared.tree.TypeName.{TypeName}
use Rattle.script_linker.specs.Lookup.{parent_in}
use Rattle.script_linker.specs.declared.set.SourceFile.{SourceFile}
use Rattle.script_parser.specs.declared.script.Function.{Function}
use Rattle.script_parser.specs.declared.script.Property.{Property}
use Rattle.script_parser.specs.declared.script.PropertyForm.{PropertyForm}
use Rattle.script_parser.specs.declared.script.PropertyForm.TheVariants as forms
use Rattle.script_parser.specs.declared.script.Script.{Script}
use Rattle.script_parser.specs.declared.script.State.{State}
use Rattle.type_scope.specs.Types.{type_named}
use Rattle.type_rules.specs.Ranges.{known}

pub record FunctionHead : Type 0 where
  pub name : List ℕ
  pub parameters : List CoreType
  pub result : Option CoreType
  pub is_global : Bool
  pub is_native : Bool
  pub doc : Option (List ℕ)
  pub flags : ℕ
  pub end_line : ℕ

-- how a property is read and written: by its variable, or by its Get and its Set
pub data AccessHead : Type 0 where
  ByVariable : AccessHead
  ByFunctions : (read write : Option FunctionHead) → AccessHead

pub record PropertyHead : Type 0 where
  pub name : List ℕ
  pub kind : CoreType
  pub access : AccessHead
  pub doc : Option (List ℕ)
  pub flags : ℕ

pub record StateHead : Type 0 where
  pub name : List ℕ
  pub functions : List FunctionHead

pub record ScriptHead : Type 0 where
  pub file : List ℕ
  pub name : List ℕ
  -- the parent's number in the set
  pub parent : Option ℕ
  pub flags : ℕ
  pub doc : Option (List ℕ)
  pub auto_state : Option (List ℕ)
  pub properties : List PropertyHead
  -- the empty state is the first
  pub states : List StateHead

-- ---- of the files of a set
-- the type of this name
abbrev pub type_in : List SourceFile → TypeName → CoreType
type_in set name = known (type_named set name)

abbrev pub parameter_type : List SourceFile → Parameter → CoreType
parameter_type set p = type_in set p.kind

abbrev pub function_head : List SourceFile → Function → FunctionHead
function_head set f =
    record { name = f.heading.name; parameters = map (parameter_type set) f.heading.parameters.items; result = option_map (type_in set) f.heading.result; is_global = f.heading.is_global; is_native = f.heading.is_native; doc = f.doc; flags = f.heading.flags; end_line = f.end_line }

abbrev pub is_get : Function → Bool
is_get f = str_eq_ignore_ascii_case f.heading.name (codes "Get")

-- the last of the functions that is a Get
abbrev pub getter : List Function → Option Function
getter functions = last_or None (filter is_get functions)

-- the last of the functions that is none
abbrev pub setter : List Function → Option Function
setter functions = last_or None (filter (λ f. not (is_get f)) functions)

-- the Get of an AutoReadOnly property of this type and line
abbrev pub constant_get : CoreType → ℕ → FunctionHead
constant_get kind line =
    record { name = codes "Get"; parameters = []; result = Some kind; is_global = false; is_native = false; doc = None; flags = 0; end_line = line }

abbrev pub access_head : List SourceFile → CoreType → ℕ → PropertyForm → AccessHead
access_head set kind line (forms.Auto value) = ByVariable
access_head set kind line (forms.ReadOnly value) = ByFunctions (Some (constant_get kind line)) None
access_head set kind line (forms.Full functions) =
    ByFunctions (option_map (function_head set) (getter functions.items)) (option_map (function_head set) (setter functions.items))

abbrev pub property_head : List SourceFile → Property → PropertyHead
property_head set p =
    record { name = p.name; kind = type_in set p.kind; access = access_head set (type_in set p.kind) p.line p.form; doc = p.doc; flags = p.flags }

abbrev pub state_head : List SourceFile → State → StateHead
state_head set s = record { name = s.name; functions = map (function_head set) s.functions.items }

-- the name of the first Auto state
abbrev pub auto_state_of : List State → Option (List ℕ)
auto_state_of [] = None
auto_state_of (state ∷ states) = if state.is_auto then Some state.name else auto_state_of states

-- the empty state, and then the others
abbrev pub state_heads : List SourceFile → Script → List StateHead
state_heads set script =
    record { name = []; functions = map (function_head set) script.functions.items } ∷ map (state_head set) script.states.items

abbrev pub property_heads : List SourceFile → Script → List PropertyHead
property_heads set script = map (property_head set) script.properties.items

abbrev pub script_head : List SourceFile → SourceFile → ScriptHead
script_head set file =
    record { file = file.name; name = file.script.name; parent = parent_in set file; flags = file.script.flags; doc = file.script.doc; auto_state = auto_state_of file.script.states.items; properties = property_heads set file.script; states = state_heads set file.script }

-- ---- of a set
abbrev pub core_function_head : CoreFunction → FunctionHead
core_function_head f =
    record { name = f.name; parameters = f.parameters.items; result = f.result; is_global = f.is_global; is_native = f.is_native; doc = f.doc; flags = f.flags; end_line = f.end_line }

abbrev pub core_access_head : CoreAccess → AccessHead
core_access_head (accesses.Auto variable) = ByVariable
core_access_head (accesses.Full read write) = ByFunctions (option_map core_function_head read) (option_map core_function_head write)

abbrev pub core_property_head : CoreProperty → PropertyHead
core_property_head p = record { name = p.name; kind = p.kind; access = core_access_head p.access; doc = p.doc; flags = p.flags }

abbrev pub core_state_head : CoreState → StateHead
core_state_head s = record { name = s.name; functions = map core_function_head s.functions.items }

abbrev pub core_script_head : CoreScript → ScriptHead
core_script_head s =
    record { file = s.file; name = s.name; parent = s.parent; flags = s.flags; doc = s.doc; auto_state = s.auto_state; properties = map core_property_head s.properties.items; states = map core_state_head s.states.items }
