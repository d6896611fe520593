-- What the outline of a set of scripts is, with lists in place of vectors.
use Rattle.std.specs.Prelude.{ℕ, Bool, List, [], ◌∷◌, map, flat_map, Option, None, Some}
use Rattle.core_tree.specs.declared.core_type.CoreType.{CoreType}
use Rattle.core_tree.specs.declared.outline.OutlineFunction.{OutlineFunction}
use Rattle.core_tree.specs.declared.outline.OutlineProperty.{OutlineProperty}
use Rattle.core_tree.specs.declared.outline.OutlineScript.{OutlineScript}
use Rattle.core_tree.specs.declared.outline.OutlineVariable.{OutlineVariable}
use Rattle.core_tree.specs.declared.script.CoreAccess.{CoreAccess}
use Rattle.core_tree.specs.declared.script.CoreAccess.TheVariants.{Auto, Full}
use Rattle.core_tree.specs.declared.script.CoreFunction.{CoreFunction}
use Rattle.core_tree.specs.declared.script.CoreProperty.{CoreProperty}
use Rattle.core_tree.specs.declared.script.CoreScript.{CoreScript}
use Rattle.core_tree.specs.declared.script.CoreState.{CoreState}
use Rattle.core_tree.specs.declared.script.CoreVariable.{CoreVariable}

pub record FunctionShape : Type 0 where
  pub name : List ℕ
  pub parameters : List CoreType
  pub result : Option CoreType
  pub is_global : Bool
  pub is_native : Bool

pub record ScriptShape : Type 0 where
  pub name : List ℕ
  pub parent : Option ℕ
  pub auto_state : Option (List ℕ)
  pub variables : List OutlineVariable
  pub properties : List OutlineProperty
  pub functions : List FunctionShape

-- a function of an outline, with a list of parameters
abbrev pub function_shape : OutlineFunction → FunctionShape
function_shape f =
    record { name = f.name; parameters = f.parameters.items; result = f.result; is_global = f.is_global; is_native = f.is_native }

-- a script of an outline, with lists of members
abbrev pub script_shape : OutlineScript → ScriptShape
script_shape s =
    record { name = s.name; parent = s.parent; auto_state = s.auto_state; variables = s.variables.items; properties = s.properties.items; functions = map function_shape s.functions.items }

abbrev pub name_in : Option OutlineScript → List ℕ
name_in None = []
name_in (Some script) = script.name

-- a name, and another one where there is none
abbrev pub name_or : Option (List ℕ) → List ℕ → List ℕ
name_or None other = other
name_or (Some name) other = name

-- what an outline keeps of a function
abbrev pub function_outline : CoreFunction → FunctionShape
function_outline f =
    record { name = f.name; parameters = f.parameters.items; result = f.result; is_global = f.is_global; is_native = f.is_native }

-- what it keeps of a variable
abbrev pub variable_outline : CoreVariable → OutlineVariable
variable_outline v = record { name = v.name; kind = v.kind; value = v.value }

-- what it keeps of a property of this name, type and access: one property where the access is Auto
abbrev pub auto_only : List ℕ → CoreType → CoreAccess → List OutlineProperty
auto_only name kind (Auto n) = record { name = name; kind = kind; variable = n } ∷ []
auto_only name kind (Full read write) = []

abbrev pub auto_property : CoreProperty → List OutlineProperty
auto_property p = auto_only p.name p.kind p.access

-- the functions of the empty state, which is the first
abbrev pub empty_state_functions : List CoreState → List CoreFunction
empty_state_functions [] = []
empty_state_functions (empty ∷ named) = empty.functions.items

-- what it keeps of a script
abbrev pub script_outline : CoreScript → ScriptShape
script_outline s =
    record { name = s.name; parent = s.parent; auto_state = s.auto_state; variables = map variable_outline s.variables.items; properties = flat_map auto_property s.properties.items; functions = map function_outline (empty_state_functions s.states.items) }

-- the parents of scripts, by number
abbrev pub parents_of : List OutlineScript → List (Option ℕ)
parents_of scripts = map (λ script. script.parent) scripts
