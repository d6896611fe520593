-- What a scan still has to read. It goes through a file without its values: only how many strings there are counts for what comes.
use Rattle.std.specs.Prelude.{ℕ, zero, suc, List, [], ◌∷◌, length}
use Rattle.pex_codec.specs.declared.scan.Part.{Part}
use Rattle.pex_codec.specs.declared.scan.Part.TheVariants as part
use Rattle.pex_codec.specs.declared.scan.Task.{Task}
use Rattle.pex_codec.specs.Reading.{Reading, Reader, Got, then_read, read_as, number_at, string_at, list_at, datum_at, pair_at, instruction_at, function_at, named_at, state_at, variable_at, property_at, object_at, size_form_at, lines_at, debug_at, flag_at, heading_at}

-- a part of which only its end counts, and the number of strings behind it
abbrev pub with_strings : {A : Type 0} → ℕ → Reading A → Reading ℕ
with_strings strings reading = read_as (λ _. strings) reading

abbrev pub part_at : Part → ℕ → Reader ℕ
part_at part.Heading strings at bytes = with_strings strings (heading_at at bytes)
part_at part.Text strings at bytes = with_strings strings (string_at at bytes)
part_at part.Strings strings at bytes = read_as length (list_at string_at at bytes)
part_at part.Debug strings at bytes = with_strings strings (debug_at strings at bytes)
part_at part.Lines strings at bytes = with_strings strings (lines_at strings at bytes)
part_at part.Line strings at bytes = with_strings strings (number_at 2 at bytes)
part_at part.Flags strings at bytes = with_strings strings (list_at (flag_at strings) at bytes)
part_at part.Flag strings at bytes = with_strings strings (flag_at strings at bytes)
part_at part.Objects strings at bytes = with_strings strings (list_at (object_at strings) at bytes)
part_at part.Object strings at bytes = with_strings strings (object_at strings at bytes)
part_at part.Variable strings at bytes = with_strings strings (variable_at strings at bytes)
part_at part.Properties strings at bytes = with_strings strings (list_at (property_at strings) at bytes)
part_at part.Property strings at bytes = with_strings strings (property_at strings at bytes)
part_at part.States strings at bytes = with_strings strings (list_at (state_at strings) at bytes)
part_at part.State strings at bytes = with_strings strings (state_at strings at bytes)
part_at part.Named strings at bytes = with_strings strings (named_at strings at bytes)
part_at part.Function strings at bytes = with_strings strings (function_at strings at bytes)
part_at part.Pairs strings at bytes = with_strings strings (list_at (pair_at strings) at bytes)
part_at part.Pair strings at bytes = with_strings strings (pair_at strings at bytes)
part_at part.Code strings at bytes = with_strings strings (list_at (instruction_at strings) at bytes)
part_at part.Instruction strings at bytes = with_strings strings (instruction_at strings at bytes)
part_at part.Operand strings at bytes = with_strings strings (datum_at strings at bytes)
part_at (part.Size size_at size) strings at bytes = with_strings strings (size_form_at size_at size at bytes)

-- the part so many times
abbrev pub times_at : Part → ℕ → ℕ → Reader ℕ
times_at part zero strings at bytes = Got strings at bytes
times_at part (suc n) strings at bytes = then_read (part_at part strings at bytes) (λ strings1 at1 rest1. times_at part n strings1 at1 rest1)

-- the tasks of a stack, the uppermost of which is the last one of the list and comes first
abbrev pub tasks_at : List Task → ℕ → Reader ℕ
tasks_at [] strings at bytes = Got strings at bytes
tasks_at (task ∷ above) strings at bytes = then_read (tasks_at above strings at bytes) (λ strings1 at1 rest1. times_at task.part task.left strings1 at1 rest1)
