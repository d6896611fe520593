-- A desk in memory, and what each call does to it.
use Rattle.std.specs.Prelude.{◌≡◌, ◌++◌, ℕ, List, [], drop, Option, None, Some, Result, Ok, Err, Contains, refl}
use Rattle.std.specs.Option.{option_map}
use Rattle.std.specs.FinMap.{get, insert, empty, code}
use Rattle.std.specs.Coded.{Coded, code_by, coded_ℕ, coded_option, coded×}
use Rattle.papy_io.specs.declared.fault.IoFault.{IoFault}
use Rattle.papy_io.specs.declared.fault.IoFault.TheVariants.{Failed, OutOfMemory}
use Rattle.papy_io.specs.declared.fault.Failed as unit
use Rattle.papy_io.specs.Activity.{Activity, Idle, Reading, Writing, coded_name, coded_activity}
use Rattle.papy_io.specs.Count.{counted, counted_by}
use Rattle.papy_io.specs.Files.{Files}
use Rattle.papy_io.specs.MemoryFiles.{bytes_in}

-- the files held, what the desk is busy with, the bytes taken, how many reads and writes failed, the name missed last,
-- the numbers of the calls that fail and the number of the next call
pub record MemoryState : Type 0 where
  pub files : Files
  pub busy : Activity
  pub taken : ℕ
  pub read_faults : ℕ
  pub write_faults : ℕ
  pub missed : Option (List ℕ)
  pub failing : List ℕ
  pub calls : ℕ

-- how a state is stored
abbrev pub coded_state : Coded MemoryState
coded_state =
    code_by (Files × (Activity × (ℕ × (ℕ × (ℕ × (Option (List ℕ) × (List ℕ × ℕ)))))))
    (coded× (code coded_name coded_name) (coded× coded_activity (coded× coded_ℕ (coded× coded_ℕ (coded× coded_ℕ (coded× (coded_option coded_name) (coded× coded_name coded_ℕ)))))))
    (λ s. (s.files, (s.busy, (s.taken, (s.read_faults, (s.write_faults, (s.missed, (s.failing, s.calls))))))))
    (λ p. record { files = p.0; busy = p.1.0; taken = p.1.1.0; read_faults = p.1.1.1.0; write_faults = p.1.1.1.1.0; missed = p.1.1.1.1.1.0; failing = p.1.1.1.1.1.1.0; calls = p.1.1.1.1.1.1.1 })
    (λ _. refl)

-- a desk that holds nothing
abbrev pub empty_desk : List ℕ → MemoryState
empty_desk failing = record { files = empty; busy = Idle; taken = 0; read_faults = 0; write_faults = 0; missed = None; failing = failing; calls = 0 }

-- the next call is one to fail
abbrev pub IsToFail : MemoryState → Type 0
IsToFail desk = Contains desk.failing desk.calls

-- `start_read` goes to the first byte, or misses the name
abbrev pub StartsReadIn : {T : Type 0} → List ℕ → Result T IoFault → MemoryState → MemoryState → Type 0
StartsReadIn name (Ok _) old new = new ≡ record old { busy = Reading name (get old.files name); calls = counted old.calls }
StartsReadIn name (Err Failed) old new = new ≡ record old { read_faults = counted old.read_faults; missed = Some name; calls = counted old.calls }
StartsReadIn name (Err OutOfMemory) old new = new ≡ old

-- `read` takes the next n bytes, or misses the name
abbrev pub ReadsIn : Activity → Result ℕ unit.Failed → MemoryState → MemoryState → Type 0
ReadsIn (Reading name left) (Ok n) old new = new ≡ record old { busy = Reading name (option_map (drop n) left); taken = counted_by old.taken n; calls = counted old.calls }
ReadsIn (Reading name left) (Err _) old new = new ≡ record old { read_faults = counted old.read_faults; missed = Some name; calls = counted old.calls }
ReadsIn Idle _ old new = ⊥
ReadsIn (Writing name) _ old new = ⊥

-- `start_write` makes the name hold no bytes
abbrev pub StartsWriteIn : {T : Type 0} → List ℕ → Result T IoFault → MemoryState → MemoryState → Type 0
StartsWriteIn name (Ok _) old new = new ≡ record old { files = insert old.files name []; busy = Writing name; calls = counted old.calls }
StartsWriteIn name (Err Failed) old new = new ≡ record old { write_faults = counted old.write_faults; calls = counted old.calls }
StartsWriteIn name (Err OutOfMemory) old new = new ≡ old

-- `write` appends the bytes
abbrev pub WritesIn : {T : Type 0} → Activity → List ℕ → Result T IoFault → MemoryState → MemoryState → Type 0
WritesIn (Writing name) bytes (Ok _) old new = new ≡ record old { files = insert old.files name (bytes_in old.files name ++ bytes); calls = counted old.calls }
WritesIn (Writing name) bytes (Err Failed) old new = new ≡ record old { write_faults = counted old.write_faults; calls = counted old.calls }
WritesIn (Writing name) bytes (Err OutOfMemory) old new = new ≡ old
WritesIn Idle bytes _ old new = ⊥
WritesIn (Reading name left) bytes _ old new = ⊥

-- `finish` leaves the desk idle, and counts a failure as one of reading or of writing
abbrev pub FinishesIn : {T : Type 0} → Activity → Result T unit.Failed → MemoryState → MemoryState → Type 0
FinishesIn (Reading name left) (Ok _) old new = new ≡ record old { busy = Idle; calls = counted old.calls }
FinishesIn (Reading name left) (Err _) old new = new ≡ record old { busy = Idle; read_faults = counted old.read_faults; missed = Some name; calls = counted old.calls }
FinishesIn (Writing name) (Ok _) old new = new ≡ record old { busy = Idle; calls = counted old.calls }
FinishesIn (Writing name) (Err _) old new = new ≡ record old { busy = Idle; write_faults = counted old.write_faults; calls = counted old.calls }
FinishesIn Idle _ old new = ⊥
