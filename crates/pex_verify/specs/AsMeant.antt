-- What the outline of a set that was verified says of its files.
use Rattle.std.specs.Prelude.{◌≡◌, List, Some, slice_get}
use Rattle.std.specs.List.{AllByRecursion, AllZip}
use Rattle.std.specs.Option.{option_and_then, option_map}
use Rattle.core_tree.specs.declared.outline.OutlineProperty.{OutlineProperty}
use Rattle.core_tree.specs.declared.outline.OutlineVariable.{OutlineVariable}
use Rattle.core_tree.specs.Outlines.{ScriptShape}
use Rattle.pex_meaning.specs.Functions.{Home, string}
use Rattle.pex_meaning.specs.Meant.{unless_empty, value_meant}
use Rattle.pex_meaning.specs.Names.{first_named, value_type}
use Rattle.pex_values.specs.declared.values.PexVariable.{PexVariable}
use Rattle.run_laws.specs.Fits.{Known, HasType}

-- ---- as its file says
-- a variable has the name and the type that its file gives it and, of this type, the initial value
pub record IsVariableMeant (home : Home) (loaded : OutlineVariable) (variable : PexVariable) : Type 0 where
  pub name : loaded.name ≡ string home variable.name
  pub kind : loaded.kind ≡ value_type home.scripts (string home variable.kind)
  pub value : loaded.value ≡ value_meant home loaded.kind variable.value

-- a script has the name, the parent, the Auto state and the variables of its object
pub record IsOutlineMeant (script : ScriptShape) (home : Home) : Type 0 where
  pub name : script.name ≡ string home home.object.name
  pub parent : script.parent ≡ option_and_then (λ parent. first_named parent home.scripts) (unless_empty (string home home.object.parent))
  pub auto_state : script.auto_state ≡ unless_empty (string home home.object.auto_state)
  pub variables : AllZip (IsVariableMeant home) script.variables home.object.variables

-- ---- ready for a scene
-- the initial value is of the variable's type, whatever instances and arrays there are
abbrev pub BeginsFit : OutlineVariable → Type 0
BeginsFit variable = (known : Known) → HasType known variable.kind variable.value

-- the variable of an Auto property is one of these, and has the property's type
abbrev pub HasVariable : List OutlineVariable → OutlineProperty → Type 0
HasVariable variables property =
    option_map (λ variable. variable.kind) (slice_get variables property.variable) ≡ Some property.kind

pub record IsReady (script : ScriptShape) : Type 0 where
  pub variables : AllByRecursion BeginsFit script.variables
  pub properties : AllByRecursion (HasVariable script.variables) script.properties
