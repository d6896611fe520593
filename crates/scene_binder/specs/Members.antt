-- The scripts of an outline: what stands above one, and what they have.
use Rattle.std.specs.Prelude.{ℕ, List, [], Option, Some, None, slice_get}
use Rattle.std.specs.List.{Contains}
use Rattle.papy_base.specs.Case.{SameIgnoringCase, folded}
use Rattle.papy_base.specs.Lineage.{Nearest, StandsAbove}
use Rattle.papy_base.specs.Table.{place_of}
use Rattle.core_tree.specs.Outlines.{parents_of}
use Rattle.core_tree.specs.declared.outline.OutlineFunction.{OutlineFunction}
use Rattle.core_tree.specs.declared.outline.OutlineProperty.{OutlineProperty}
use Rattle.core_tree.specs.declared.outline.OutlineScript.{OutlineScript}
use Rattle.scene_binder.specs.Names.{first_of, function_name, property_name, script_name}

-- the number of the script of this name, the first where there are more
abbrev pub script_named : List OutlineScript → List ℕ → Option ℕ
script_named scripts name = place_of script_name scripts (folded name)

abbrev pub functions_in : Option OutlineScript → List OutlineFunction
functions_in None = []
functions_in (Some script) = script.functions.items

abbrev pub properties_in : Option OutlineScript → List OutlineProperty
properties_in None = []
properties_in (Some script) = script.properties.items

-- the script n has this function in its empty state
abbrev pub HasFunction : List OutlineScript → ℕ → OutlineFunction → Type 0
HasFunction scripts n function = Contains (functions_in (slice_get scripts n)) function

-- the script n has this Auto property
abbrev pub HasProperty : List OutlineScript → ℕ → OutlineProperty → Type 0
HasProperty scripts n property = Contains (properties_in (slice_get scripts n)) property

-- the Auto property that the script n has of its own under a name with these folded bytes
abbrev pub own_property : List OutlineScript → List ℕ → ℕ → Option OutlineProperty
own_property scripts bytes n = first_of property_name (properties_in (slice_get scripts n)) bytes

-- and the function of its empty state
abbrev pub own_function : List OutlineScript → List ℕ → ℕ → Option OutlineFunction
own_function scripts bytes n = first_of function_name (functions_in (slice_get scripts n)) bytes

-- of the Auto properties of this name that the script n and those above it have, the nearest, after the number of its script
abbrev pub IsNearestProperty : List OutlineScript → List ℕ → ℕ → ℕ → OutlineProperty → Type 0
IsNearestProperty scripts name n owner property =
    Nearest {X = OutlineProperty} (parents_of scripts) (own_property scripts (folded name)) n (Some (owner, property))

-- the same of functions of the empty states
abbrev pub IsNearestFunction : List OutlineScript → List ℕ → ℕ → ℕ → OutlineFunction → Type 0
IsNearestFunction scripts name n owner function =
    Nearest {X = OutlineFunction} (parents_of scripts) (own_function scripts (folded name)) n (Some (owner, function))

-- the script n or one above it has this function in its empty state, under this name, and none nearer has the name
pub record HasFunctionNamed (scripts : List OutlineScript) (n : ℕ) (name : List ℕ) (function : OutlineFunction) : Type 0 where
  pub owner : ℕ
  pub above : StandsAbove (parents_of scripts) n owner
  pub there : HasFunction scripts owner function
  pub named : SameIgnoringCase function.name name
  pub nearest : IsNearestFunction scripts name n owner function
