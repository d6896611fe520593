-- What going on with a scan does.
use Rattle.std.specs.Prelude.{◌≡◌, ℕ, List, [], ◌∷◌, ◌++◌, Result, Ok, Err}
use Rattle.papy_base.specs.declared.faults.Fault.{Fault}
use Rattle.papy_base.specs.declared.faults.Fault.TheVariants as fault
use Rattle.pex_codec.specs.declared.cursor.Cursor.{Cursor}
use Rattle.pex_codec.specs.declared.cursor.Stop.{Stop}
use Rattle.pex_codec.specs.declared.cursor.Stop.TheVariants as stop
use Rattle.pex_codec.specs.declared.scan.Task.{Task}
use Rattle.pex_codec.specs.declared.scan.Scan.{Scan}
use Rattle.pex_codec.specs.Opening.{Moved}
use Rattle.pex_codec.specs.Reading.{Reading, Reader, Got, Short, Refused}
use Rattle.pex_codec.specs.Scanning.{tasks_at}

-- what is to come, the last of which comes first
abbrev pub stack_of : Scan → List Task
stack_of scan = scan.below.items ++ (scan.current ∷ [])

-- what the scan reads at a place of a file: the number of strings, behind all that is to come
abbrev pub left_at : Scan → Reader ℕ
left_at scan at bytes = tasks_at (stack_of scan) scan.strings at bytes

-- every task is done
pub record Finishes (old new : Scan) (from to : Cursor) : Type 0 where
  pub done : left_at old from.at from.rest.now ≡ Got new.strings to.at to.rest.now
  pub moved : Moved 0 from.at from.rest.now to.at to.rest.now

-- the bytes end within an item, before which it stands; whatever follows is read as it would have been
pub record Waits (old new : Scan) (from to : Cursor) : Type 0 where
  pub follows : (x : List ℕ) → left_at old from.at (from.rest.now ++ x) ≡ left_at new to.at (to.rest.now ++ x)
  pub short : left_at new to.at to.rest.now ≡ Short
  pub moved : Moved 0 from.at from.rest.now to.at to.rest.now

abbrev pub ScansOn : Scan → Result Unit (Fault Stop) → Scan → Cursor → Cursor → Type 0
ScansOn old (Ok _) new from to = Finishes old new from to
ScansOn old (Err (fault.Broken stop.Short)) new from to = Waits old new from to
ScansOn old (Err (fault.Broken (stop.Refused offset rule))) new from to = left_at old from.at from.rest.now ≡ Refused offset rule
ScansOn old (Err fault.OutOfMemory) new from to = Unit {0}
