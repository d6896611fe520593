-- What tasks read stays read, too.
use Rattle.std.specs.Prelude.{zero, suc}
use Rattle.std.proofs.Common.{ℕ, List, [], ◌∷◌, length, refl}
use Rattle.pex_codec.specs.declared.scan.Part.{Part}
use Rattle.pex_codec.specs.declared.scan.Part.TheVariants as part
use Rattle.pex_codec.specs.declared.scan.Task.{Task}
use Rattle.pex_codec.specs.Reading.{Reader, number_at, string_at, list_at, datum_at, pair_at, instruction_at, function_at, named_at, state_at, variable_at, property_at, object_at, size_form_at, lines_at, debug_at, flag_at, heading_at}
use Rattle.pex_codec.specs.Scanning.{part_at, times_at, tasks_at}
use Rattle.pex_codec.proofs.Stable.{IsStable, then_stable, as_stable, number_stable, string_stable, list_stable, datum_stable, pair_stable, instruction_stable, function_stable, named_stable, state_stable, variable_stable, property_stable, object_stable, size_form_stable, lines_stable, debug_stable, flag_stable, heading_stable}

pub part_stable : (p : Part) (strings : ℕ) → IsStable (part_at p strings)
part_stable part.Heading strings = as_stable _ heading_at heading_stable
part_stable part.Text strings = as_stable _ string_at string_stable
part_stable part.Strings strings = as_stable _ (list_at string_at) (list_stable string_at string_stable)
part_stable part.Debug strings = as_stable _ (debug_at strings) (debug_stable strings)
part_stable part.Lines strings = as_stable _ (lines_at strings) (lines_stable strings)
part_stable part.Line strings = as_stable _ (number_at 2) (number_stable 2)
part_stable part.Flags strings = as_stable _ (list_at (flag_at strings)) (list_stable (flag_at strings) (flag_stable strings))
part_stable part.Flag strings = as_stable _ (flag_at strings) (flag_stable strings)
part_stable part.Objects strings = as_stable _ (list_at (object_at strings)) (list_stable (object_at strings) (object_stable strings))
part_stable part.Object strings = as_stable _ (object_at strings) (object_stable strings)
part_stable part.Variable strings = as_stable _ (variable_at strings) (variable_stable strings)
part_stable part.Properties strings = as_stable _ (list_at (property_at strings)) (list_stable (property_at strings) (property_stable strings))
part_stable part.Property strings = as_stable _ (property_at strings) (property_stable strings)
part_stable part.States strings = as_stable _ (list_at (state_at strings)) (list_stable (state_at strings) (state_stable strings))
part_stable part.State strings = as_stable _ (state_at strings) (state_stable strings)
part_stable part.Named strings = as_stable _ (named_at strings) (named_stable strings)
part_stable part.Function strings = as_stable _ (function_at strings) (function_stable strings)
part_stable part.Pairs strings = as_stable _ (list_at (pair_at strings)) (list_stable (pair_at strings) (pair_stable strings))
part_stable part.Pair strings = as_stable _ (pair_at strings) (pair_stable strings)
part_stable part.Code strings = as_stable _ (list_at (instruction_at strings)) (list_stable (instruction_at strings) (instruction_stable strings))
part_stable part.Instruction strings = as_stable _ (instruction_at strings) (instruction_stable strings)
part_stable part.Operand strings = as_stable _ (datum_at strings) (datum_stable strings)
part_stable (part.Size size_at size) strings = as_stable _ (size_form_at size_at size) (size_form_stable size_at size)

pub times_stable : (p : Part) (n strings : ℕ) → IsStable (times_at p n strings)
times_stable p zero strings at bytes x = refl
times_stable p (suc n) strings at bytes x = then_stable (part_at p strings) (times_at p n) (part_stable p strings) (times_stable p n) at bytes x

pub tasks_stable : (tasks : List Task) (strings : ℕ) → IsStable (tasks_at tasks strings)
tasks_stable [] strings at bytes x = refl
tasks_stable (task ∷ above) strings at bytes x = then_stable (tasks_at above strings) (times_at task.part task.left) (tasks_stable above strings) (times_stable task.part task.left) at bytes x
