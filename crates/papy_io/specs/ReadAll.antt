-- What reading a whole file answers, counts and leaves.
use Rattle.std.specs.Prelude.{◌≡◌, ℕ, ◌+◌, ◌<◌, ◌≤◌, List, length, Option, None, Some, Result, Ok, Err, IfSome}
use Rattle.std.specs.declared.alloc.Global.{Global}
use Rattle.std.specs.declared.vec.Vec.{Vec}
use Rattle.papy_io.specs.declared.fault.IoFault.{IoFault}
use Rattle.papy_io.specs.declared.fault.IoFault.TheVariants as io
use Rattle.papy_io.specs.declared.whole_file.ReadAllFault.{ReadAllFault}
use Rattle.papy_io.specs.declared.whole_file.ReadAllFault.TheVariants.{ReadFault, TooLarge, OutOfMemory}
use Rattle.papy_io.specs.Activity.{Activity, Idle, Reading, Writing}
use Rattle.papy_io.specs.Count.{last_count, HasRisen, HasRisenBy}
use Rattle.papy_io.specs.Files.{Files, told_bytes}

abbrev pub read_fault_of : IoFault → ReadAllFault
read_fault_of io.Failed = ReadFault
read_fault_of io.OutOfMemory = OutOfMemory

-- where the bytes to be read are known: `Ok` has them all, and there are more than the limit where they are too many
abbrev pub GivesAll : Option (List ℕ) → ℕ → Result (Vec ℕ Global) ReadAllFault → Type 0
GivesAll left limit (Ok all) = (length all.items ≤ limit) × IfSome left (λ bytes. all.items ≡ bytes)
GivesAll left limit (Err TooLarge) = IfSome left (λ bytes. limit < length bytes)
GivesAll left limit (Err ReadFault) = Unit {0}
GivesAll left limit (Err OutOfMemory) = Unit {0}

-- reading on to the end leaves the desk reading the same name
abbrev pub ReadsLeft : Activity → ℕ → Result (Vec ℕ Global) ReadAllFault → Activity → Type 0
ReadsLeft (Reading name left) limit result now = GivesAll left limit result × ((rest : Option (List ℕ)) × (now ≡ Reading name rest))
ReadsLeft Idle limit result now = ⊥
ReadsLeft (Writing name) limit result now = ⊥

-- `Ok` has all bytes of a held name, and a name that is too large is held with more bytes than the limit, where they are told
abbrev pub ReadsFile : Option Files → List ℕ → ℕ → Result (Vec ℕ Global) ReadAllFault → Type 0
ReadsFile None name limit result = GivesAll None limit result
ReadsFile (Some files) name limit (Ok all) = (length all.items ≤ limit) × (told_bytes (Some files) name ≡ Some all.items)
ReadsFile (Some files) name limit (Err TooLarge) = (bytes : List ℕ) × (told_bytes (Some files) name ≡ Some bytes) × (limit < length bytes)
ReadsFile (Some files) name limit (Err ReadFault) = Unit {0}
ReadsFile (Some files) name limit (Err OutOfMemory) = Unit {0}

-- it is greater than before by more than n, or stands at its last value
pub record HasRisenPast (n before now : ℕ) : Type 0 where
  pub never_falls : before ≤ now
  pub past : now < last_count → before + n < now

-- the bytes taken are those of the file, and more than the limit where they are too many
abbrev pub CountsFile : ℕ → Result (Vec ℕ Global) ReadAllFault → ℕ → ℕ → Type 0
CountsFile limit (Ok all) before now = HasRisenBy (length all.items) before now
CountsFile limit (Err TooLarge) before now = HasRisenPast limit before now
CountsFile limit (Err ReadFault) before now = before ≤ now
CountsFile limit (Err OutOfMemory) before now = before ≤ now

-- the count of failed reads rises where `ReadFault` is answered, and nowhere else
abbrev pub CountsReadFault : Result (Vec ℕ Global) ReadAllFault → ℕ → ℕ → Type 0
CountsReadFault (Ok _) before now = now ≡ before
CountsReadFault (Err ReadFault) before now = HasRisen before now
CountsReadFault (Err TooLarge) before now = now ≡ before
CountsReadFault (Err OutOfMemory) before now = now ≡ before

-- the name is the one missed where `ReadFault` is answered, and nowhere else
abbrev pub MissesFile : List ℕ → Result (Vec ℕ Global) ReadAllFault → Option (List ℕ) → Option (List ℕ) → Type 0
MissesFile name (Ok _) before now = now ≡ before
MissesFile name (Err ReadFault) before now = now ≡ Some name
MissesFile name (Err TooLarge) before now = now ≡ before
MissesFile name (Err OutOfMemory) before now = now ≡ before

-- the same while the name is being read
abbrev pub MissesLeft : Activity → Result (Vec ℕ Global) ReadAllFault → Option (List ℕ) → Option (List ℕ) → Type 0
MissesLeft (Reading name left) result before now = MissesFile name result before now
MissesLeft Idle result before now = ⊥
MissesLeft (Writing name) result before now = ⊥
