-- What the first fields of a part open: the tasks that are to come behind them.
use Rattle.std.specs.Prelude.{◌≡◌, ℕ, ◌+◌, ◌*◌, ◌-◌, ◌<◌, ◌≤◌, zero, suc, Bool, true, false, List, [], ◌∷◌, ◌++◌, length, drop, Option, Some, None, Result, Ok, Err}
use Rattle.papy_base.specs.declared.faults.Fault.{Fault}
use Rattle.pex_values.specs.Bits.{has_read, has_write}
use Rattle.pex_values.specs.Opcodes.{operands_of}
use Rattle.pex_codec.specs.declared.cursor.Cursor.{Cursor}
use Rattle.pex_codec.specs.declared.cursor.Stop.{Stop}
use Rattle.pex_codec.specs.declared.cursor.FunctionHead.{FunctionHead}
use Rattle.pex_codec.specs.declared.cursor.ObjectHead.{ObjectHead}
use Rattle.pex_codec.specs.declared.cursor.PropertyHead.{PropertyHead}
use Rattle.pex_codec.specs.declared.scan.Opened.{Opened}
use Rattle.pex_codec.specs.declared.scan.Part.{Part}
use Rattle.pex_codec.specs.declared.scan.Part.TheVariants as part
use Rattle.pex_codec.specs.declared.scan.Task.{Task}
use Rattle.pex_codec.specs.Reading.{Reading, Reader, Got, Short, Refused, then_read, read_as, number_at, reference_at, count_at, opcode_at, debug_flag_at}
use Rattle.pex_codec.specs.Scanning.{part_at, times_at, tasks_at}
use Rattle.pex_codec.specs.Taking.{Stops}

abbrev pub task : Part → ℕ → Task
task part n = record { part = part; left = n }

-- how often a part stands that stands where it is asked for
abbrev pub times_of : Bool → ℕ
times_of true = 1
times_of false = 0

-- ---- first fields

-- the operands that an opcode always has, and how many more follow
abbrev pub fixed_with : ℕ → Option (ℕ × Bool) → Reader ℕ
fixed_with strings (Some (n, true)) at bytes = then_read (times_at part.Operand n strings at bytes) (λ fixed at1 rest1. count_at at1 rest1)
fixed_with strings (Some (n, false)) at bytes = read_as (λ fixed. 0) (times_at part.Operand n strings at bytes)
fixed_with strings None at bytes = Short

-- an opcode and the operands that it always has, and how many more follow
unfoldable pub fixed_at : ℕ → Reader ℕ
fixed_at strings at bytes = then_read (opcode_at at bytes) (λ opcode at1 rest1. fixed_with strings (operands_of opcode) at1 rest1)

-- the name of a state, and of how many functions it is
unfoldable pub state_count_at : ℕ → Reader ℕ
state_count_at strings at bytes = then_read (reference_at strings at bytes) (λ name at1 rest1. number_at 2 at1 rest1)

-- of how many functions line numbers follow the flag
abbrev pub debug_count_with : ℕ → Reader ℕ
debug_count_with zero at bytes = Got 0 at bytes
debug_count_with _ at bytes = then_read (number_at 8 at bytes) (λ time at1 rest1. number_at 2 at1 rest1)

unfoldable pub debug_count_at : Reader ℕ
debug_count_at at bytes = then_read (debug_flag_at at bytes) debug_count_with

-- ---- what was opened

-- from an offset and its bytes on, at least so many bytes were passed
pub record Moved (least from : ℕ) (bytes : List ℕ) (to : ℕ) (behind : List ℕ) : Type 0 where
  pub count : ℕ
  pub within : count ≤ length bytes
  pub enough : least ≤ count
  pub at : to ≡ from + count
  pub rest : behind ≡ drop count bytes

-- the tasks, the last of which comes first
abbrev pub tasks_of : Opened → List Task
tasks_of opened = opened.fourth ∷ opened.third ∷ opened.second ∷ opened.first ∷ []

-- what was opened reads what these tasks read
pub record IsOpened (opened : Opened) (tasks : List Task) (strings : ℕ) : Type 0 where
  pub same : (at : ℕ) (bytes : List ℕ) → tasks_at (tasks_of opened) opened.strings at bytes ≡ tasks_at tasks strings at bytes

-- a size takes no byte
abbrev pub least_of : Part → ℕ
least_of (part.Size size_at size) = 0
least_of _ = 1

-- a part's first fields were read: what they opened reads the rest of it, whatever bytes follow
pub record HasOpened (part : Part) (strings : ℕ) (opened : Opened) (old new : Cursor) : Type 0 where
  pub same : (x : List ℕ) → part_at part strings old.at (old.rest.now ++ x) ≡ tasks_at (tasks_of opened) opened.strings new.at (new.rest.now ++ x)
  pub moved : Moved (least_of part) old.at old.rest.now new.at new.rest.now

abbrev pub Opens : Part → ℕ → Result Opened (Fault Stop) → Cursor → Cursor → Type 0
Opens part strings (Ok opened) old new = HasOpened part strings opened old new
Opens part strings (Err stop) old new = Stops (part_at part strings old.at old.rest.now) stop

-- of so many of a part some were passed, and so many are left, whatever bytes follow
pub record Passes (part : Part) (strings left : ℕ) (old : Cursor) (now : ℕ) (new : Cursor) : Type 0 where
  pub fewer : now ≤ left
  pub same : (x : List ℕ) → times_at part left strings old.at (old.rest.now ++ x) ≡ times_at part now strings new.at (new.rest.now ++ x)
  pub moved : Moved (left - now) old.at old.rest.now new.at new.rest.now

-- one of a part was passed
pub record PassesOne (part : Part) (strings : ℕ) (old new : Cursor) : Type 0 where
  pub same : part_at part strings old.at old.rest.now ≡ Got strings new.at new.rest.now
  pub moved : Moved 1 old.at old.rest.now new.at new.rest.now

abbrev pub PassesIf : Bool → Part → ℕ → Cursor → Cursor → Type 0
PassesIf true part strings old new = PassesOne part strings old new
PassesIf false part strings old new = Unit {0}

-- what was opened where something was taken: these tasks, and so many strings from there on
abbrev pub OpensAs : {T : Type 0} → Result T (Fault Stop) → (T → List Task) → (T → ℕ) → Result Opened (Fault Stop) → Type 0
OpensAs (Ok taken) tasks strings (Ok opened) = IsOpened opened (tasks taken) (strings taken)
OpensAs (Err stop) tasks strings (Err passed) = passed ≡ stop
OpensAs _ tasks strings _ = ⊥

-- what a property's head opens
abbrev pub property_tasks : PropertyHead → List Task
property_tasks h = task part.Function (times_of (has_write h.bits)) ∷ task part.Function (times_of (has_read h.bits)) ∷ []

-- what a function's head opens
abbrev pub function_tasks : FunctionHead → List Task
function_tasks h = task part.Code 1 ∷ task part.Pairs 1 ∷ task part.Pair h.parameters ∷ []

-- what an object's head opens
abbrev pub object_tasks : ObjectHead → List Task
object_tasks h = task (part.Size h.size_at h.size) 1 ∷ task part.States 1 ∷ task part.Properties 1 ∷ task part.Variable h.variables ∷ []

-- a whole file
abbrev pub whole_file : List Task
whole_file = task part.Objects 1 ∷ task part.Flags 1 ∷ task part.Debug 1 ∷ task part.Strings 1 ∷ task part.Text 3 ∷ task part.Heading 1 ∷ []
