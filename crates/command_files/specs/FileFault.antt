-- Why a file that a command reads gave nothing, and how the command ends then.
use Rattle.std.specs.Prelude.{◌≡◌, ℕ, List, Option, Some, Result, Ok, Err}
use Rattle.papy_io.specs.declared.fault.IoFault.{IoFault}
use Rattle.papy_io.specs.declared.fault.IoFault.TheVariants as io
use Rattle.papy_io.specs.Count.{HasRisen}
use Rattle.command_files.specs.declared.ending.Ending.{Ending}
use Rattle.command_files.specs.declared.ending.Ending.TheVariants as ending
use Rattle.command_files.specs.declared.file_fault.FileFault.{FileFault}
use Rattle.command_files.specs.declared.file_fault.FileFault.TheVariants.{ReadFault, OutOfMemory, Refused}

-- the fault of the file that the word of this number names
abbrev pub ending_at : ℕ → FileFault → Ending
ending_at word ReadFault = ending.ReadFault word
ending_at word OutOfMemory = ending.OutOfMemory
ending_at word (Refused place rule) = ending.Refused word place rule

abbrev pub start_fault : IoFault → FileFault
start_fault io.Failed = ReadFault
start_fault io.OutOfMemory = OutOfMemory

-- the count of failed reads rises where the file was not read, and nowhere else
abbrev pub CountsFile : {T : Type 0} → Result T FileFault → ℕ → ℕ → Type 0
CountsFile (Ok _) before now = now ≡ before
CountsFile (Err ReadFault) before now = HasRisen before now
CountsFile (Err OutOfMemory) before now = now ≡ before
CountsFile (Err (Refused place rule)) before now = now ≡ before

-- the name is the one missed where the file was not read
abbrev pub MissesFile : {T : Type 0} → List ℕ → Result T FileFault → Option (List ℕ) → Type 0
MissesFile name (Ok _) missed = Unit {0}
MissesFile name (Err ReadFault) missed = missed ≡ Some name
MissesFile name (Err OutOfMemory) missed = Unit {0}
MissesFile name (Err (Refused place rule)) missed = Unit {0}
