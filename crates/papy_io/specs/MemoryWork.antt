-- What the work of a desk in memory is, seen from outside.
use Rattle.std.specs.Prelude.{◌≡◌, ℕ, ◌≤◌, List, true, false, length, drop, Option, None, Some, IsSome}
use Rattle.std.specs.Option.{option_map}
use Rattle.std.specs.FinMap.{get}
use Rattle.papy_io.specs.declared.memory_desk.MemoryWork.{MemoryWork}
use Rattle.papy_io.specs.declared.memory_desk.MemoryWork.TheVariants as work
use Rattle.papy_io.specs.Activity.{Activity, Idle, Reading, Writing}
use Rattle.papy_io.specs.Files.{Files}

-- the bytes left are those of the name from its place on
abbrev pub activity_in : Files → MemoryWork → Activity
activity_in files work.Idle = Idle
activity_in files (work.Reading name at is_missed) = Reading name.items (option_map (drop at) (get files name.items))
activity_in files (work.Writing name) = Writing name.items

-- the name missed last: the one being read where a call has failed, and else an earlier one
abbrev pub missed_in : MemoryWork → Option (List ℕ) → Option (List ℕ)
missed_in work.Idle earlier = earlier
missed_in (work.Reading name at true) earlier = Some name.items
missed_in (work.Reading name at false) earlier = earlier
missed_in (work.Writing name) earlier = earlier

-- a place in the bytes of a held name
abbrev pub IsPlaceIn : ℕ → Option (List ℕ) → Type 0
IsPlaceIn at None = ⊥
IsPlaceIn at (Some bytes) = at ≤ length bytes

-- what is read or written is held, and a read goes on within it
abbrev pub WorksOn : Files → MemoryWork → Type 0
WorksOn files work.Idle = Unit {0}
WorksOn files (work.Reading name at is_missed) = IsPlaceIn at (get files name.items)
WorksOn files (work.Writing name) = IsSome (get files name.items)

-- a name is being read
abbrev pub IsReadingWork : MemoryWork → Type 0
IsReadingWork work.Idle = ⊥
IsReadingWork (work.Reading name at is_missed) = Unit {0}
IsReadingWork (work.Writing name) = ⊥

-- the name that is being read is the one missed
abbrev pub MissesFailed : Activity → Option (List ℕ) → Type 0
MissesFailed (Reading name left) now = now ≡ Some name
MissesFailed Idle now = ⊥
MissesFailed (Writing name) now = ⊥
