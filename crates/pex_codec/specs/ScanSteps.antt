-- What a scan still reads, and what a step of it does.
use Rattle.std.specs.Prelude.{◌≡◌, ℕ, ◌+◌, ◌*◌, ◌<◌, ◌≤◌, zero, suc, Bool, true, false, List, [], ◌∷◌, ◌++◌, length, Result, Ok, Err}
use Rattle.papy_base.specs.declared.faults.Fault.{Fault}
use Rattle.papy_base.specs.declared.faults.Fault.TheVariants as fault
use Rattle.pex_codec.specs.declared.cursor.Cursor.{Cursor}
use Rattle.pex_codec.specs.declared.cursor.Stop.{Stop}
use Rattle.pex_codec.specs.declared.cursor.Stop.TheVariants as stop
use Rattle.pex_codec.specs.declared.scan.Task.{Task}
use Rattle.pex_codec.specs.declared.scan.Scan.{Scan}
use Rattle.pex_codec.specs.Opening.{Moved}
use Rattle.pex_codec.specs.Reading.{Short, Refused}
use Rattle.pex_codec.specs.Scanning.{tasks_at}
use Rattle.pex_codec.specs.Scans.{left_at}

-- both stacks read the same, and the second one isn't higher
pub record SameStack (old new : List Task) : Type 0 where
  pub same : (strings at : ℕ) (bytes : List ℕ) → tasks_at old strings at bytes ≡ tasks_at new strings at bytes
  pub height : length new ≤ length old

abbrev pub some_left : ℕ → ℕ
some_left zero = 0
some_left (suc left) = 1

-- the work on the stack: it is 0 where nothing is to come
abbrev pub work_of : Scan → ℕ
work_of scan = 2 * length scan.below.items + some_left scan.current.left

-- what is still to come is the same from the new place on, whatever bytes follow, and there is less of it
pub record IsStep (old : Scan) (from : Cursor) (new : Scan) (to : Cursor) : Type 0 where
  pub same : (x : List ℕ) → left_at old from.at (from.rest.now ++ x) ≡ left_at new to.at (to.rest.now ++ x)
  pub moved : Moved 0 from.at from.rest.now to.at to.rest.now
  pub less : 16 * length to.rest.now + work_of new < 16 * length from.rest.now + work_of old

-- nothing was changed, since the bytes end
pub record Stays (old : Scan) (from : Cursor) (new : Scan) (to : Cursor) : Type 0 where
  pub short : left_at old from.at from.rest.now ≡ Short
  pub scan : new ≡ old
  pub cursor : to ≡ from

abbrev pub Steps : {T : Type 0} → Result T (Fault Stop) → Scan → Cursor → Scan → Cursor → Type 0
Steps (Ok _) old from new to = IsStep old from new to
Steps (Err (fault.Broken stop.Short)) old from new to = Stays old from new to
Steps (Err (fault.Broken (stop.Refused offset rule))) old from new to = left_at old from.at from.rest.now ≡ Refused offset rule
Steps (Err fault.OutOfMemory) old from new to = Unit {0}

-- a step, or nothing
abbrev pub StepsIf : Bool → Scan → Cursor → Scan → Cursor → Type 0
StepsIf true old from new to = IsStep old from new to
StepsIf false old from new to = (new ≡ old) × (to ≡ from)
