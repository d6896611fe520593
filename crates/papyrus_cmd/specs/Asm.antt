-- What `asm` reads and leaves.
use Rattle.std.specs.Prelude.{◌≡◌, ◌⊎◌, ℕ, nat_lt, List, length, Option, None, Some, Result, Ok, Err, IfSome, if◌then◌else◌}
use Rattle.std.specs.declared.alloc.Global.{Global}
use Rattle.std.specs.declared.vec.Vec.{Vec}
use Rattle.papy_io.specs.Files.{Files, told_bytes, ChangesTold}
use Rattle.papy_io.specs.WriteFile.{HoldsNow, MayHold}
use Rattle.pex_codec.specs.Spells.{Spells}
use Rattle.pex_values.specs.Plain.{PlainPex}
use Rattle.pex_listing.specs.Breaks.{Break, list_break}
use Rattle.pex_listing.specs.Listing.{listing as listing_of}
use Rattle.pex_listing.specs.declared.faults.ListingRule.{ListingRule}
use Rattle.pex_listing.specs.declared.faults.ListingRule.TheVariants.{BadLine}
use Rattle.papyrus_cmd.specs.Show.{Lists}
use Rattle.command_files.specs.declared.ending.Ending.{Ending}
use Rattle.command_files.specs.declared.ending.Ending.TheVariants as ending
use Rattle.command_files.specs.declared.file_fault.FileFault.{FileFault}
use Rattle.command_files.specs.declared.file_fault.FileFault.TheVariants.{ReadFault, OutOfMemory, Refused}
use Rattle.command_files.specs.declared.refusal.Place.{Place}
use Rattle.command_files.specs.declared.refusal.Place.TheVariants.{Line}
use Rattle.command_files.specs.declared.refusal.Rule.{Rule}
use Rattle.command_files.specs.declared.refusal.Rule.TheVariants.{Listing}

-- the most bytes of a listing
abbrev pub limit : ℕ
limit = 134217728

-- the file of this name holds the listing of the value
abbrev pub HoldsListing : List ℕ → PlainPex → Files → Type 0
HoldsListing source value files = told_bytes (Some files) source ≡ Some (listing_of value)

-- the bytes spell the value whose listing the file of this name holds
pub record IsAssembled (source : List ℕ) (holds : Option Files) (bytes : List ℕ) : Type 0 where
  pub value : PlainPex
  pub spelled : Spells value bytes
  pub listed : IfSome holds (HoldsListing source value)

-- the first rule that a text breaks, with its line: one of more than 128 MiB breaks G1 at line 0, whatever else it breaks
abbrev pub first_break : List ℕ → Break
first_break text = if nat_lt limit (length text) then Some (0, BadLine) else list_break text

-- the break is told as this place and this rule
pub record IsBreakAt (first : Break) (place : Place) (rule : Rule) : Type 0 where
  pub line : ℕ
  pub broken : ListingRule
  pub place_is : place ≡ Line line
  pub rule_is : rule ≡ Listing broken
  pub first_is : first ≡ Some (line, broken)

-- the text is refused so, by the first rule that it breaks
abbrev pub RefusesListing : List ℕ → Place → Rule → Type 0
RefusesListing text place rule = IsBreakAt (first_break text) place rule

-- the text breaks no rule
abbrev pub IsUnbroken : List ℕ → Type 0
IsUnbroken text = first_break text ≡ None

-- a value, spelled
abbrev pub SpellsValue : PlainPex → Result (Vec ℕ Global) FileFault → Type 0
SpellsValue value (Ok bytes) = Spells value bytes.items
SpellsValue value (Err OutOfMemory) = Unit {0}
SpellsValue value (Err (Refused place rule)) = ⊥
SpellsValue value (Err ReadFault) = ⊥

-- a listing, assembled where it breaks no rule, or refused by the first that it breaks
abbrev pub Assembles : List ℕ → Result (Vec ℕ Global) FileFault → Type 0
Assembles text (Ok bytes) = Lists bytes.items text × (list_break text ≡ None)
Assembles text (Err (Refused place rule)) = IsBreakAt (list_break text) place rule
Assembles text (Err OutOfMemory) = Unit {0}
Assembles text (Err ReadFault) = ⊥

-- what reading the listing of this name gives
abbrev pub ReadsListing : Option Files → List ℕ → Result (Vec ℕ Global) FileFault → Type 0
ReadsListing None name result = Unit {0}
ReadsListing (Some files) name (Ok bytes) = (text : List ℕ) × (told_bytes (Some files) name ≡ Some text) × IsUnbroken text
ReadsListing (Some files) name (Err (Refused place rule)) = (text : List ℕ) × (told_bytes (Some files) name ≡ Some text) × RefusesListing text place rule
ReadsListing (Some files) name (Err ReadFault) = Unit {0}
ReadsListing (Some files) name (Err OutOfMemory) = Unit {0}

-- the name holds a spelling of what the listing of the source lists, and every other name what it held
abbrev pub Writes : List ℕ → List ℕ → Option Files → Option Files → Type 0
Writes source name old new = (bytes : List ℕ) × IsAssembled source old bytes × ChangesTold name (HoldsNow bytes) old new

-- the same where the name may hold the first part of the spelling, or what it held, or nothing
abbrev pub MayWrite : List ℕ → List ℕ → Option Files → Option Files → Type 0
MayWrite source name old new = (new ≡ old) ⊎ ((bytes : List ℕ) × IsAssembled source old bytes × ChangesTold name (MayHold bytes) old new)

-- what the files are by the way that `asm` ended
abbrev pub AsmLeaves : List ℕ → List ℕ → Ending → Option Files → Option Files → Type 0
AsmLeaves source name ending.Done old new = Writes source name old new
AsmLeaves source name ending.WriteFault old new = MayWrite source name old new
AsmLeaves source name ending.OutOfMemory old new = MayWrite source name old new
AsmLeaves source name (ending.ReadFault word) old new = new ≡ old
AsmLeaves source name (ending.Refused word place rule) old new = new ≡ old
AsmLeaves source name ending.Usage old new = ⊥
AsmLeaves source name ending.NotBuilt old new = ⊥
