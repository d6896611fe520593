-- The variables of a script, those of its Auto properties among them.
use Rattle.std.specs.Prelude.{◌≡◌, ◌++◌, ℕ, List, codes, map, if◌then◌else◌}
use Rattle.core_tree.specs.declared.core_type.CoreType.{CoreType}
use Rattle.core_tree.specs.declared.script.CoreScript.{CoreScript}
use Rattle.core_tree.specs.declared.script.CoreVariable.{CoreVariable}
use Rattle.script_linker.specs.Generated.{Pairwise}
use Rattle.script_linker.specs.declared.set.SourceFile.{SourceFile}
use Rattle.script_parser.specs.declared.script.Script.{Script}
use Rattle.type_scope.specs.Sources.{Declaration, InOrderOfLine, declarations}
use Rattle.type_rules.specs.Heads.{type_in}

pub record VariableHead : Type 0 where
  pub name : List ℕ
  pub kind : CoreType
  pub flags : ℕ

-- the variable of an Auto property NAME is called `::NAME_var`
abbrev pub variable_name : Declaration → List ℕ
variable_name d = if d.is_auto then codes "::" ++ d.name ++ codes "_var" else d.name

abbrev pub variable_head : List SourceFile → Declaration → VariableHead
variable_head set d = record { name = variable_name d; kind = type_in set d.kind; flags = d.flags }

abbrev pub core_variable_head : CoreVariable → VariableHead
core_variable_head v = record { name = v.name; kind = v.kind; flags = v.flags }

-- the variables are those that the script declares, in order of line
pub record HasVariables (set : List SourceFile) (script : Script) (variables : List CoreVariable) : Type 0 where
  pub ordered : List Declaration
  pub in_order : InOrderOfLine (declarations script) ordered
  pub heads : map core_variable_head variables ≡ map (variable_head set) ordered

abbrev pub ScriptVariables : List SourceFile → SourceFile → CoreScript → Type 0
ScriptVariables set file made = HasVariables set file.script made.variables.items

-- so are those of each script of a set
abbrev pub HaveVariables : List SourceFile → List CoreScript → Type 0
HaveVariables set = Pairwise (ScriptVariables set) set
