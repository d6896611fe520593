-- What declares the variables of a script, those of its Auto properties among them.
use Rattle.std.specs.Prelude.{◌++◌, ℕ, Bool, true, false, List, [], ◌∷◌, map, if◌then◌else◌}
use Rattle.std.specs.List.Sorted.{IsNonDecreasingBy, IsPermutation}
use Rattle.line_parser.specs.declared.tree.TypeName.{TypeName}
use Rattle.script_parser.specs.declared.script.Property.{Property}
use Rattle.script_parser.specs.declared.script.PropertyForm.{PropertyForm}
use Rattle.script_parser.specs.declared.script.PropertyForm.TheVariants as forms
use Rattle.script_parser.specs.declared.script.Script.{Script}
use Rattle.script_parser.specs.declared.script.Variable.{Variable}
use Rattle.type_scope.specs.declared.layout.Source.{Source}
use Rattle.type_scope.specs.declared.layout.Source.TheVariants as sources

-- a variable by the name that is written, that of the property where it is Auto, and the name of its type
pub record Declaration : Type 0 where
  pub is_auto : Bool
  pub name : List ℕ
  pub kind : TypeName
  pub flags : ℕ
  pub line : ℕ

abbrev pub of_variable : Variable → Declaration
of_variable v = record { is_auto = false; name = v.name; kind = v.kind; flags = v.flags; line = v.line }

-- the variable of an Auto property has no flags
abbrev pub of_property : Property → Declaration
of_property p = record { is_auto = true; name = p.name; kind = p.kind; flags = 0; line = p.line }

abbrev pub is_auto : PropertyForm → Bool
is_auto (forms.Auto value) = true
is_auto (forms.ReadOnly value) = false
is_auto (forms.Full functions) = false

abbrev pub auto_declarations : List Property → List Declaration
auto_declarations [] = []
auto_declarations (p ∷ ps) = if is_auto p.form then of_property p ∷ auto_declarations ps else auto_declarations ps

abbrev pub declarations : Script → List Declaration
declarations script = map of_variable script.variables.items ++ auto_declarations script.properties.items

abbrev pub declaration : Source → Declaration
declaration (sources.Declared variable) = of_variable variable.now
declaration (sources.Auto property place) = of_property property.now

abbrev pub source_line : Source → ℕ
source_line source = (declaration source).line

-- the declarations of the script, in order of line
pub record InOrderOfLine (declared ordered : List Declaration) : Type 0 where
  pub all : IsPermutation declared ordered
  pub rising : IsNonDecreasingBy (λ d. d.line) ordered
