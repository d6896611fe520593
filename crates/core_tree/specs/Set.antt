-- A set of scripts as plain data, with lists in place of vectors.
use Rattle.std.specs.Prelude.{ℕ, Bool, List, [], ◌∷◌, map, Option, Some, None}
use Rattle.core_tree.specs.declared.core_type.CoreType.{CoreType}
use Rattle.core_tree.specs.declared.script.CoreAccess.{CoreAccess}
use Rattle.core_tree.specs.declared.script.CoreAccess.TheVariants as access
use Rattle.core_tree.specs.declared.script.CoreFunction.{CoreFunction}
use Rattle.core_tree.specs.declared.script.CoreProperty.{CoreProperty}
use Rattle.core_tree.specs.declared.script.CoreScript.{CoreScript}
use Rattle.core_tree.specs.declared.script.CoreSet.{CoreSet}
use Rattle.core_tree.specs.declared.script.CoreState.{CoreState}
use Rattle.core_tree.specs.declared.script.CoreVariable.{CoreVariable}
use Rattle.core_tree.specs.Tree.{Block, block_of}

pub record Function : Type 0 where
  pub name : List ℕ
  pub parameters : List CoreType
  pub locals : List CoreType
  pub result : Option CoreType
  pub is_global : Bool
  pub is_native : Bool
  pub doc : Option (List ℕ)
  pub flags : ℕ
  pub body : Block
  pub end_line : ℕ

-- how a property is read and written: by a variable, or by its Get and its Set
pub data Access : Type 0 where
  Auto : (variable : ℕ) → Access
  Full : (read write : Option Function) → Access

pub record Property : Type 0 where
  pub name : List ℕ
  pub kind : CoreType
  pub access : Access
  pub doc : Option (List ℕ)
  pub flags : ℕ

pub record State : Type 0 where
  pub name : List ℕ
  pub functions : List Function

-- the empty state is the first of `states`
pub record Script : Type 0 where
  pub file : List ℕ
  pub name : List ℕ
  pub parent : Option ℕ
  pub flags : ℕ
  pub doc : Option (List ℕ)
  pub auto_state : Option (List ℕ)
  pub variables : List CoreVariable
  pub properties : List Property
  pub states : List State

abbrev pub function_of : CoreFunction → Function
function_of f =
    record { name = f.name; parameters = f.parameters.items; locals = f.locals.items; result = f.result; is_global = f.is_global; is_native = f.is_native; doc = f.doc; flags = f.flags; body = block_of f.body.items; end_line = f.end_line }

abbrev pub function_of_option : Option CoreFunction → Option Function
function_of_option None = None
function_of_option (Some f) = Some (function_of f)

abbrev pub access_of : CoreAccess → Access
access_of (access.Auto variable) = Auto variable
access_of (access.Full read write) = Full (function_of_option read) (function_of_option write)

abbrev pub property_of : CoreProperty → Property
property_of p = record { name = p.name; kind = p.kind; access = access_of p.access; doc = p.doc; flags = p.flags }

abbrev pub state_of : CoreState → State
state_of s = record { name = s.name; functions = map function_of s.functions.items }

abbrev pub script_of : CoreScript → Script
script_of s =
    record { file = s.file; name = s.name; parent = s.parent; flags = s.flags; doc = s.doc; auto_state = s.auto_state; variables = s.variables.items; properties = map property_of s.properties.items; states = map state_of s.states.items }

-- the scripts of a set, by number
abbrev pub scripts_of : CoreSet → List Script
scripts_of set = map script_of set.scripts.items

-- the functions of a script's empty state, by place
abbrev pub empty_functions_of : List State → List Function
empty_functions_of [] = []
empty_functions_of (empty ∷ named) = empty.functions

abbrev pub empty_functions : Script → List Function
empty_functions script = empty_functions_of script.states
