-- What reading a compiled file gives.
use Rattle.std.specs.Prelude.{◌≡◌, ℕ, ◌<◌, ◌≤◌, List, length, Option, None, Some, Result, Ok, Err}
use Rattle.std.specs.declared.alloc.Global.{Global}
use Rattle.std.specs.declared.vec.Vec.{Vec}
use Rattle.papy_io.specs.Files.{Files, told_bytes}
use Rattle.pex_codec.specs.declared.faults.PexFault.{PexFault}
use Rattle.pex_codec.specs.declared.faults.PexFault.TheVariants as pex
use Rattle.pex_codec.specs.declared.faults.PexRule.{PexRule}
use Rattle.pex_codec.specs.declared.faults.PexRule.TheVariants.{TooLarge}
use Rattle.pex_codec.specs.Decoding.{Breaks, IsSpelling}
use Rattle.pex_codec.specs.Spells.{Spells}
use Rattle.pex_values.specs.Plain.{plain}
use Rattle.command_files.specs.declared.file_fault.FileFault.{FileFault}
use Rattle.command_files.specs.declared.file_fault.FileFault.TheVariants.{ReadFault, OutOfMemory, Refused}
use Rattle.command_files.specs.declared.pex_file.PexFile.{PexFile}
use Rattle.command_files.specs.declared.refusal.Place.{Place}
use Rattle.command_files.specs.declared.refusal.Place.TheVariants.{Offset}
use Rattle.command_files.specs.declared.refusal.Rule.{Rule}
use Rattle.command_files.specs.declared.refusal.Rule.TheVariants.{Pex}
use Rattle.command_files.specs.TextFile.{ReadsText}

-- the most bytes of a compiled file
abbrev pub limit : ℕ
limit = 16777216

-- why a file that was read gave nothing
abbrev pub IsRefusalOf : PexFault → FileFault → Type 0
IsRefusalOf pex.OutOfMemory fault = fault ≡ OutOfMemory
IsRefusalOf (pex.Broken offset broken) fault = fault ≡ Refused (Offset offset) (Pex broken)

-- the first rule that the bytes break, at its offset
pub record BreaksAt (bytes : List ℕ) (place : Place) (rule : Rule) : Type 0 where
  pub offset : ℕ
  pub broken : PexRule
  pub place_is : place ≡ Offset offset
  pub rule_is : rule ≡ Pex broken
  pub breaks : Breaks bytes offset broken

-- a file with these bytes is refused so: one of more than 16 MiB is too large, whatever else it breaks
abbrev pub IsTooLarge : Place → Rule → Type 0
IsTooLarge place rule = (place ≡ Offset limit) × (rule ≡ Pex TooLarge)

pub record RefusesPex (bytes : List ℕ) (place : Place) (rule : Rule) : Type 0 where
  pub breaks : length bytes ≤ limit → BreaksAt bytes place rule
  pub too_large : limit < length bytes → IsTooLarge place rule

-- the bytes of the file, which are no more than a file may have
abbrev pub ReadsBytes : Option Files → List ℕ → Result (Vec ℕ Global) FileFault → Type 0
ReadsBytes holds name result = ReadsText holds name limit (Offset limit) (Pex TooLarge) result

-- what reading the file of this name gives, of whose bytes an Ok says this
abbrev pub Reads : {T : Type 0} → (T → List ℕ → Type 0) → Option Files → List ℕ → Result T FileFault → Type 0
Reads Says None name result = Unit {0}
Reads Says (Some files) name (Ok x) = (bytes : List ℕ) × (told_bytes (Some files) name ≡ Some bytes) × Says x bytes
Reads Says (Some files) name (Err (Refused place rule)) = (bytes : List ℕ) × (told_bytes (Some files) name ≡ Some bytes) × RefusesPex bytes place rule
Reads Says (Some files) name (Err ReadFault) = Unit {0}
Reads Says (Some files) name (Err OutOfMemory) = Unit {0}

-- the value that the bytes spell, and the bytes
pub record IsRead (file : PexFile) (bytes : List ℕ) : Type 0 where
  pub spelled : Spells (plain file.value) bytes
  pub kept : file.bytes.items ≡ bytes

abbrev pub ReadsPex : Option Files → List ℕ → Result PexFile FileFault → Type 0
ReadsPex holds name result = Reads IsRead holds name result

-- the number of the bytes, which spell a value
pub record IsCounted (n : ℕ) (bytes : List ℕ) : Type 0 where
  pub spelled : IsSpelling bytes
  pub size : n ≡ length bytes

abbrev pub CountsPex : Option Files → List ℕ → Result ℕ FileFault → Type 0
CountsPex holds name result = Reads IsCounted holds name result
