-- The lines of what a script declares.
use Rattle.std.specs.Prelude.{ℕ, List, [], ◌∷◌, ◌++◌, map, flat_map, take}
use Rattle.script_parser.specs.declared.script.Script.{Script}
use Rattle.script_parser.specs.declared.script.Function.{Function}
use Rattle.script_parser.specs.declared.script.Variable.{Variable}
use Rattle.script_parser.specs.declared.script.State.{State}
use Rattle.script_parser.specs.declared.script.Property.{Property}
use Rattle.script_parser.specs.declared.script.PropertyForm.{PropertyForm}
use Rattle.script_parser.specs.declared.script.PropertyForm.TheVariants.{Auto, ReadOnly, Full}

abbrev pub import_line : ℕ × List ℕ → ℕ
import_line (line, name) = line

abbrev pub variable_line : Variable → ℕ
variable_line variable = variable.line

abbrev pub property_line : Property → ℕ
property_line property = property.line

abbrev pub function_line : Function → ℕ
function_line function = function.line

-- the functions that read and write a property, where it has any
abbrev pub accessors : PropertyForm → List Function
accessors (Auto value) = []
accessors (ReadOnly value) = []
accessors (Full functions) = functions.items

abbrev pub property_lines : Property → List ℕ
property_lines property = property.line ∷ map function_line (accessors property.form)

abbrev pub state_lines : State → List ℕ
state_lines state = state.line ∷ map function_line state.functions.items

-- the lines of a script and of its imports
abbrev pub heading_lines : Script → List ℕ
heading_lines script = script.line ∷ map import_line script.imports.items

-- the lines of a script and of all that it declares, where these are the functions of its empty state
abbrev pub lines_with : List Function → Script → List ℕ
lines_with functions script =
    heading_lines script
    ++ map variable_line script.variables.items
    ++ flat_map property_lines script.properties.items
    ++ map function_line functions
    ++ flat_map state_lines script.states.items

-- the lines of a script and of its imports, variables, properties, functions and states, and of the functions of its properties and states
abbrev pub lines_of : Script → List ℕ
lines_of script = lines_with script.functions.items script

-- the same of a script of whose functions only the first ones, so many, are its own
abbrev pub own_lines : ℕ → Script → List ℕ
own_lines count script = lines_with (take count script.functions.items) script
