-- What each call of a desk does to what it holds and to what it is busy with, by its answer and by
-- what it was busy with.
use Rattle.std.specs.Prelude.{◌≡◌, ◌⊎◌, ◌↔◌, ℕ, ◌≤◌, List, [], ◌++◌, length, take, drop, Option, None, Some, Result, Ok, Err}
use Rattle.std.specs.Option.{option_map}
use Rattle.papy_io.specs.declared.fault.IoFault.{IoFault}
use Rattle.papy_io.specs.declared.fault.IoFault.TheVariants.{Failed, OutOfMemory}
use Rattle.papy_io.specs.declared.fault.Failed as unit
use Rattle.papy_io.specs.Activity.{Activity, Idle, Reading, Writing}
use Rattle.papy_io.specs.Count.{HasRisenBy, CountsFailures}
use Rattle.papy_io.specs.Files.{Files, told_bytes, ChangesTold}

-- the bytes that a read has yet to give: those of a held name, where they are told
abbrev pub StartsAt : Option Files → List ℕ → Option (List ℕ) → Type 0
StartsAt None name left = left ≡ None
StartsAt (Some files) name left = (bytes : List ℕ) × (told_bytes (Some files) name ≡ Some bytes) × (left ≡ Some bytes)

-- `start_read` begins at the first byte of a held name, or leaves the desk idle
abbrev pub StartsReading : {T : Type 0} → Option Files → List ℕ → Result T IoFault → Activity → Type 0
StartsReading holds name (Ok _) now = (left : Option (List ℕ)) × StartsAt holds name left × (now ≡ Reading name left)
StartsReading holds name (Err _) now = now ≡ Idle

-- `start_write` leaves the desk writing the name, or idle
abbrev pub StartsWriting : {T : Type 0} → List ℕ → Result T IoFault → Activity → Type 0
StartsWriting name (Ok _) now = now ≡ Writing name
StartsWriting name (Err _) now = now ≡ Idle

-- the first n bytes of the buffer are the next ones, and there are none exactly at the end
abbrev pub GivesNext : Option (List ℕ) → ℕ → List ℕ → Type 0
GivesNext None n buffer = Unit {0}
GivesNext (Some bytes) n buffer = (take n buffer ≡ take n bytes) × (n ≤ length bytes) × ((n ≡ 0) ↔ (bytes ≡ []))

-- `read` gives the next bytes and goes on behind them, or stays in its place
abbrev pub ReadsOn : Activity → Result ℕ unit.Failed → List ℕ → Activity → Type 0
ReadsOn (Reading name left) (Ok n) buffer now =
    (n ≤ length buffer) × GivesNext left n buffer × (now ≡ Reading name (option_map (drop n) left))
ReadsOn (Reading name left) (Err _) buffer now = now ≡ Reading name left
ReadsOn Idle _ buffer now = now ≡ Idle
ReadsOn (Writing name) _ buffer now = now ≡ Writing name

-- the bytes that `read` gave are counted
abbrev pub CountsTaken : Result ℕ unit.Failed → ℕ → ℕ → Type 0
CountsTaken (Ok n) before now = HasRisenBy n before now
CountsTaken (Err _) before now = now ≡ before

-- the name that a read failed to start on is the one missed
abbrev pub MissesStart : {T : Type 0} → List ℕ → Result T IoFault → Option (List ℕ) → Option (List ℕ) → Type 0
MissesStart name (Ok _) before now = now ≡ before
MissesStart name (Err Failed) before now = now ≡ Some name
MissesStart name (Err OutOfMemory) before now = now ≡ before

-- the name whose read failed is the one missed
abbrev pub MissesRead : {T : Type 0} → Activity → Result T unit.Failed → Option (List ℕ) → Option (List ℕ) → Type 0
MissesRead (Reading name left) (Err _) before now = now ≡ Some name
MissesRead (Reading name left) (Ok _) before now = now ≡ before
MissesRead Idle _ before now = now ≡ before
MissesRead (Writing name) _ before now = now ≡ before

-- the failed `finish` of a reading desk counts as a failed read
abbrev pub CountsReadFinish : {T : Type 0} → Activity → Result T unit.Failed → ℕ → ℕ → Type 0
CountsReadFinish (Reading name left) result before now = CountsFailures result before now
CountsReadFinish Idle _ before now = now ≡ before
CountsReadFinish (Writing name) _ before now = now ≡ before

-- the failed `finish` of a writing desk counts as a failed write
abbrev pub CountsWriteFinish : {T : Type 0} → Activity → Result T unit.Failed → ℕ → ℕ → Type 0
CountsWriteFinish (Writing name) result before now = CountsFailures result before now
CountsWriteFinish Idle _ before now = now ≡ before
CountsWriteFinish (Reading name left) _ before now = now ≡ before

-- the name holds no bytes
abbrev pub Empties : Option (List ℕ) → Option (List ℕ) → Type 0
Empties before now = now ≡ Some []

-- the name holds what it held, or no bytes, or is not held
abbrev pub MayEmpty : Option (List ℕ) → Option (List ℕ) → Type 0
MayEmpty before now = (now ≡ before) ⊎ (now ≡ Some []) ⊎ (now ≡ None)

-- the bytes that a held name holds grow by these; a name that is not held stays so
abbrev pub Appends : List ℕ → Option (List ℕ) → Option (List ℕ) → Type 0
Appends bytes before now = now ≡ option_map (λ held. held ++ bytes) before

-- they grow by the first of these, as many as there may be
abbrev pub AppendsSome : List ℕ → Option (List ℕ) → Option (List ℕ) → Type 0
AppendsSome bytes before now = (n : ℕ) × Appends (take n bytes) before now

-- `start_write` empties the name; a failed one may have done so, or removed it
abbrev pub StartsFile : {T : Type 0} → List ℕ → Result T IoFault → Option Files → Option Files → Type 0
StartsFile name (Ok _) old new = ChangesTold name Empties old new
StartsFile name (Err Failed) old new = ChangesTold name MayEmpty old new
StartsFile name (Err OutOfMemory) old new = new ≡ old

-- `write` appends all bytes to the name that is being written, a failed one the first of them
abbrev pub WritesOn : {T : Type 0} → Activity → Result T IoFault → List ℕ → Option Files → Option Files → Type 0
WritesOn (Writing name) (Ok _) bytes old new = ChangesTold name (Appends bytes) old new
WritesOn (Writing name) (Err Failed) bytes old new = ChangesTold name (AppendsSome bytes) old new
WritesOn (Writing name) (Err OutOfMemory) bytes old new = new ≡ old
WritesOn Idle _ bytes old new = new ≡ old
WritesOn (Reading name left) _ bytes old new = new ≡ old
