-- What reading a whole file gives.
use Rattle.std.specs.Prelude.{◌≡◌, ℕ, ◌<◌, ◌≤◌, List, length, Option, None, Some, Result, Ok, Err}
use Rattle.std.specs.declared.alloc.Global.{Global}
use Rattle.std.specs.declared.vec.Vec.{Vec}
use Rattle.papy_io.specs.Files.{Files, told_bytes}
use Rattle.command_files.specs.declared.file_fault.FileFault.{FileFault}
use Rattle.command_files.specs.declared.file_fault.FileFault.TheVariants.{ReadFault, OutOfMemory, Refused}
use Rattle.command_files.specs.declared.refusal.Place.{Place}
use Rattle.command_files.specs.declared.refusal.Rule.{Rule}

-- all bytes of the file, or that there are more than the limit
abbrev pub ReadsText : Option Files → List ℕ → ℕ → Place → Rule → Result (Vec ℕ Global) FileFault → Type 0
ReadsText None name limit place rule result = Unit {0}
ReadsText (Some files) name limit place rule (Ok text) = (length text.items ≤ limit) × (told_bytes (Some files) name ≡ Some text.items)
ReadsText (Some files) name limit place rule (Err (Refused found broken)) =
    (bytes : List ℕ) × (told_bytes (Some files) name ≡ Some bytes) × (limit < length bytes) × (found ≡ place) × (broken ≡ rule)
ReadsText (Some files) name limit place rule (Err ReadFault) = Unit {0}
ReadsText (Some files) name limit place rule (Err OutOfMemory) = Unit {0}
