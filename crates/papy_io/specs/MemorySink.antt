-- A sink in memory, and what a call does to it.
use Rattle.std.specs.Prelude.{◌≡◌, ℕ, List, ◌++◌, Result, Ok, Err}
use Rattle.papy_io.specs.declared.fault.IoFault.{IoFault}
use Rattle.papy_io.specs.declared.fault.IoFault.TheVariants.{Failed, OutOfMemory}
use Rattle.papy_io.specs.Count.{counted}

-- what was written, the numbers of the calls that fail, the number of the next call, and how many failed
pub record SinkState : Type 0 where
  pub written : List ℕ
  pub failing : List ℕ
  pub calls : ℕ
  pub faults : ℕ

-- a call whose number is listed fails and takes no bytes; one that finds no memory has no number
abbrev pub MemoryWrites : {T : Type 0} → Result T IoFault → List ℕ → SinkState → SinkState → Type 0
MemoryWrites (Ok _) bytes old new = new ≡ record old { written = old.written ++ bytes; calls = counted old.calls }
MemoryWrites (Err Failed) bytes old new = new ≡ record old { calls = counted old.calls; faults = counted old.faults }
MemoryWrites (Err OutOfMemory) bytes old new = new ≡ old
