-- The outline of a loaded script.
use Rattle.std.specs.Prelude.{◌≡◌, ℕ, ◌==◌, List, [], ◌∷◌, length, map, Option, Some, None, if◌then◌else◌}
use Rattle.std.specs.List.{filter_map}
use Rattle.std.specs.declared.alloc.Global.{Global}
use Rattle.std.specs.declared.vec.Vec.{Vec}
use Rattle.core_tree.specs.declared.outline.OutlineProperty.{OutlineProperty}
use Rattle.core_tree.specs.declared.outline.OutlineScript.{OutlineScript}
use Rattle.core_tree.specs.Outlines.{FunctionShape, function_shape}
use Rattle.papy_base.specs.declared.name.Name.{Name}
use Rattle.pex_verify.specs.declared.judged.JudgedFunction.{JudgedFunction}
use Rattle.pex_verify.specs.declared.judged.JudgedProperty.{JudgedProperty}
use Rattle.pex_verify.specs.declared.judged.JudgedScript.{JudgedScript}
use Rattle.pex_verify.specs.declared.scope.Home.{Home}
use Rattle.pex_verify.specs.Parents.{parent_in, parent_among}
use Rattle.pex_verify.specs.Signatures.{title_at}

-- what an outline keeps of a function
abbrev pub loaded_shape : JudgedFunction → FunctionShape
loaded_shape f =
    record { name = f.name; parameters = map (λ parameter. parameter.1) f.parameters.items; result = f.result; is_global = f.is_global; is_native = f.is_native }

-- the functions of the first state without name
abbrev pub functions_without_state : List (Name × Vec JudgedFunction Global) → List JudgedFunction
functions_without_state [] = []
functions_without_state (state ∷ rest) = if length state.0 == 0 then state.1.items else functions_without_state rest

-- a name, none where it is empty
abbrev pub unless_empty : List ℕ → Option (List ℕ)
unless_empty name = if length name == 0 then None else Some name

-- what an outline keeps of a property, where it is one of this variable
abbrev pub property_with : JudgedProperty → Option ℕ → Option OutlineProperty
property_with property None = None
property_with property (Some variable) = Some (record { name = property.name; kind = property.kind; variable = variable })

abbrev pub auto_property : JudgedProperty → Option OutlineProperty
auto_property property = property_with property property.variable

-- what the outline of a script says
pub record IsOutlineOf (home : Home) (script : JudgedScript) (outline : OutlineScript) : Type 0 where
  pub name : outline.name ≡ title_at home.source.now.titles.now home.object.now.name
  pub parent : outline.parent ≡ parent_among (length home.set.now.heads.items) (parent_in home.set.now.heads.items home.here)
  pub auto_state : outline.auto_state ≡ unless_empty (title_at home.source.now.titles.now home.object.now.auto_state)
  pub variables : outline.variables.items ≡ home.variables.now.list.items
  pub properties : outline.properties.items ≡ filter_map auto_property script.properties.items
  pub functions : map function_shape outline.functions.items ≡ map loaded_shape (functions_without_state script.states.items)
