-- That what a script declares stands on lines of its file.
use Rattle.std.specs.Prelude.{List, All}
use Rattle.script_lexer.specs.declared.line.Line.{Line}
use Rattle.script_parser.specs.Faults.{IsNumberOf}
use Rattle.script_parser.specs.Lines.{accessors, import_line}
use Rattle.script_parser.specs.declared.script.Function.{Function}
use Rattle.script_parser.specs.declared.script.Property.{Property}
use Rattle.script_parser.specs.declared.script.PropertyForm.{PropertyForm}
use Rattle.script_parser.specs.declared.script.Script.{Script}
use Rattle.script_parser.specs.declared.script.State.{State}

abbrev pub FunctionStands : List Line → Function → Type 0
FunctionStands lines function = IsNumberOf lines function.line

abbrev pub FunctionsStand : List Line → List Function → Type 0
FunctionsStand lines functions = All (FunctionStands lines) functions

abbrev pub AccessorsStand : List Line → PropertyForm → Type 0
AccessorsStand lines form = FunctionsStand lines (accessors form)

pub record PropertyStands (lines : List Line) (property : Property) : Type 0 where
  pub line : IsNumberOf lines property.line
  pub accessors : AccessorsStand lines property.form

pub record StateStands (lines : List Line) (state : State) : Type 0 where
  pub line : IsNumberOf lines state.line
  pub functions : FunctionsStand lines state.functions.items

pub record ScriptStands (lines : List Line) (script : Script) : Type 0 where
  pub line : IsNumberOf lines script.line
  pub imports : All (λ import. IsNumberOf lines (import_line import)) script.imports.items
  pub variables : All (λ variable. IsNumberOf lines variable.line) script.variables.items
  pub properties : All (PropertyStands lines) script.properties.items
  pub functions : FunctionsStand lines script.functions.items
  pub states : All (StateStands lines) script.states.items
