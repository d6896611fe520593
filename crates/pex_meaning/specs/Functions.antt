-- What functions mean: what their names are, which types they have, their code, and its source lines.
use Rattle.std.specs.Prelude.{ℕ, ◌==◌, Bool, ◌&&◌, List, [], ◌++◌, length, map, take, replicate, find, option_map, unwrap_or, bit_and}
use Rattle.pex_values.specs.Plain.{PlainFunction, PlainLines, PlainObject, PlainPex}
use Rattle.code_meaning.specs.Code.{Function}
use Rattle.pex_meaning.specs.Names.{string_at, are_same, type_named, value_type}
use Rattle.pex_meaning.specs.Instructions.{Scope, instruction_meant}

-- where a part of a file stands: the names of the set's scripts, the file, and the object
pub record Home : Type 0 where
  pub scripts : List (List ℕ)
  pub file : PlainPex
  pub object : PlainObject

abbrev pub string : Home → ℕ → List ℕ
string home reference = string_at home.file.strings reference

abbrev pub variable_names : Home → List (List ℕ)
variable_names home = map (λ variable. string home variable.name) home.object.variables

abbrev pub has_bit : ℕ → ℕ → Bool
has_bit bits bit = bit_and bits bit == bit

-- ---- code
-- of a function whose references lead into these strings: those of its file, or of the prelude, where it is a member
-- that the object lacks
abbrev pub scope_of : Home → List (List ℕ) → PlainFunction → Scope
scope_of home strings function = record {
  strings = strings;
  scripts = home.scripts;
  slots = map (λ slot. string_at strings slot.0) (function.parameters ++ function.locals);
  variables = variable_names home;
  is_global = has_bit function.bits 1;
}

abbrev pub function_meant : Home → List (List ℕ) → List ℕ → List ℕ → PlainFunction → Function
function_meant home strings name lines function = record {
  name = name;
  parameters = map (λ parameter. value_type home.scripts (string_at strings parameter.1)) function.parameters;
  locals = map (λ local. type_named home.scripts (string_at strings local.1)) function.locals;
  result = type_named home.scripts (string_at strings function.result);
  is_global = has_bit function.bits 1;
  is_native = has_bit function.bits 2;
  code = map (instruction_meant (scope_of home strings function)) function.code;
  lines = lines;
}

-- ---- lines
-- whether an entry of the debug information is that of a function. Its kind is 0 for a function of a state, and 1 or 2 for one
-- that reads or writes a property, whose entry has the empty state and the property's name
abbrev pub is_for : Home → ℕ → List ℕ → List ℕ → PlainLines → Bool
is_for home kind state name entry =
    (entry.kind == kind)
    && are_same (string home entry.object) (string home home.object.name)
    && are_same (string home entry.state) state
    && are_same (string home entry.function) name

abbrev pub entries_of : Home → List PlainLines
entries_of home = unwrap_or (option_map (λ debug. debug.functions) home.file.debug) []

-- those of the first such entry
abbrev pub lines_there : Home → ℕ → List ℕ → List ℕ → List ℕ
lines_there home kind state name =
    unwrap_or (option_map (λ entry. entry.lines) (find (is_for home kind state name) (entries_of home))) []

-- one for each of so many instructions, and 0 where there is none
abbrev pub lines_meant : Home → ℕ → List ℕ → List ℕ → ℕ → List ℕ
lines_meant home kind state name count = take count (lines_there home kind state name ++ replicate count 0)

-- a function that stands in the file, where the debug information has it under this kind, state and name
abbrev pub own_function : Home → ℕ → List ℕ → List ℕ → PlainFunction → Function
own_function home kind state name function =
    function_meant home home.file.strings name (lines_meant home kind state name (length function.code)) function
