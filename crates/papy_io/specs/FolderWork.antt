-- What the work of a desk over real files is, seen from outside.
use Rattle.std.specs.Prelude.{List, ℕ, true, false, Option, None, Some}
use Rattle.papy_io.specs.declared.folder_desk.FolderWork.{FolderWork}
use Rattle.papy_io.specs.declared.folder_desk.FolderWork.TheVariants as work
use Rattle.papy_io.specs.Activity.{Activity, Idle, Reading, Writing}

-- the bytes left are not told
abbrev pub activity_of : {F : Type 0} → FolderWork F → Activity
activity_of work.Idle = Idle
activity_of (work.Reading name file is_missed) = Reading name.items None
activity_of (work.Writing name file) = Writing name.items

-- the name missed last: the one being read where a call has failed, and else an earlier one
abbrev pub missed_of : {F : Type 0} → FolderWork F → Option (List ℕ) → Option (List ℕ)
missed_of work.Idle earlier = earlier
missed_of (work.Reading name file true) earlier = Some name.items
missed_of (work.Reading name file false) earlier = earlier
missed_of (work.Writing name file) earlier = earlier
