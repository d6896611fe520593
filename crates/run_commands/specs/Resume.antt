-- What `resume` answers to a held file. Its word is the second.
use Rattle.std.specs.Prelude.{◌≡◌, ℕ, ◌+◌, ◌<◌, ◌≤◌, List, All, length, Option, None, Some, Result, Ok, Err}
use Rattle.machine_state.specs.Plain.{PlainState}
use Rattle.papy_io.specs.Files.{Files, told_bytes}
use Rattle.papy_io.specs.Sink.{AppendsSome}
use Rattle.pex_verify.specs.Files.{IsFile}
use Rattle.scene_runner.specs.Report.{IsReport, Reports}
use Rattle.stack_save.specs.Held.{HasHeading, HasLayout, IsHeld, Spells, limit}
use Rattle.stack_save.specs.declared.fault.HeldFault.{HeldFault}
use Rattle.stack_save.specs.declared.fault.HeldFault.TheVariants as held
use Rattle.stack_save.specs.declared.fault.HeldRule.{HeldRule}
use Rattle.stack_save.specs.declared.fault.HeldRule.TheVariants.{TooLarge, BadMagic, BadLayout, BadFiles, BadScene, BadState, OtherDevices}
use Rattle.stack_save.specs.declared.loading.Held.{Held}
use Rattle.command_files.specs.declared.ending.Ending.{Ending}
use Rattle.command_files.specs.declared.ending.Ending.TheVariants as ending
use Rattle.command_files.specs.declared.file_fault.FileFault.{FileFault}
use Rattle.command_files.specs.declared.file_fault.FileFault.TheVariants as file
use Rattle.command_files.specs.declared.refusal.Place.{Place}
use Rattle.command_files.specs.declared.refusal.Place.TheVariants.{Whole}
use Rattle.command_files.specs.declared.refusal.Rule.{Rule}
use Rattle.command_files.specs.declared.refusal.Rule.TheVariants as rule

-- the rule is the first that the bytes break, but for H3 to H6, of which it is told only that they come behind the others
abbrev pub Breaks : List ℕ → HeldRule → Type 0
Breaks bytes TooLarge = limit < length bytes
Breaks bytes BadMagic = (length bytes ≤ limit) × ¬ HasHeading bytes
Breaks bytes BadLayout = (length bytes ≤ limit) × HasHeading bytes × ¬ HasLayout bytes
Breaks bytes BadFiles = (length bytes ≤ limit) × HasLayout bytes
Breaks bytes BadScene = (length bytes ≤ limit) × HasLayout bytes
Breaks bytes BadState = (length bytes ≤ limit) × HasLayout bytes
Breaks bytes OtherDevices = (length bytes ≤ limit) × HasLayout bytes

-- a held file is refused by a rule that it breaks, told of the whole file
pub record RefusesHeld (bytes : List ℕ) (place : Place) (broken : Rule) : Type 0 where
  pub by : HeldRule
  pub place_is : place ≡ Whole
  pub rule_is : broken ≡ rule.Held by
  pub breaks : Breaks bytes by

-- the bytes of a held file, or why they are refused
abbrev pub LoadsHeld : List ℕ → Result Held FileFault → Type 0
LoadsHeld bytes (Ok found) = (length bytes ≤ limit) × IsHeld bytes found
LoadsHeld bytes (Err (file.Refused place broken)) = RefusesHeld bytes place broken
LoadsHeld bytes (Err file.OutOfMemory) = Unit {0}
LoadsHeld bytes (Err file.ReadFault) = ⊥

-- what reading the held file of this name gives
abbrev pub ReadsHeld : Option Files → List ℕ → Result Held FileFault → Type 0
ReadsHeld None name result = Unit {0}
ReadsHeld (Some files) name (Ok found) = (bytes : List ℕ) × (told_bytes (Some files) name ≡ Some bytes) × (length bytes ≤ limit) × IsHeld bytes found
ReadsHeld (Some files) name (Err (file.Refused place broken)) = (bytes : List ℕ) × (told_bytes (Some files) name ≡ Some bytes) × RefusesHeld bytes place broken
ReadsHeld (Some files) name (Err file.OutOfMemory) = Unit {0}
ReadsHeld (Some files) name (Err file.ReadFault) = Unit {0}

-- what a held file holds can be verified, and its devices have a number
pub record IsReady (found : Held) : Type 0 where
  pub few : length found.files.items < 65536
  pub valid : All IsFile found.files.items
  pub few_devices : length found.state.devices.items < 65536

-- rules that are broken by a file that could be loaded
abbrev pub IsBehindLoading : HeldRule → Type 0
IsBehindLoading TooLarge = ⊥
IsBehindLoading BadMagic = ⊥
IsBehindLoading BadLayout = ⊥
IsBehindLoading BadFiles = Unit {0}
IsBehindLoading BadScene = Unit {0}
IsBehindLoading BadState = Unit {0}
IsBehindLoading OtherDevices = Unit {0}

abbrev pub IsLate : HeldFault → Type 0
IsLate (held.Broken broken) = IsBehindLoading broken
IsLate held.OutOfMemory = Unit {0}

-- how a command ends of whose held file this holds
abbrev pub held_ending : HeldFault → Ending
held_ending (held.Broken broken) = ending.Refused 2 Whole (rule.Held broken)
held_ending held.OutOfMemory = ending.OutOfMemory

-- the bytes are those of a held run after so many turns
pub record IsHeldAt (turns : ℕ) (bytes : List ℕ) : Type 0 where
  pub values : List (List ℕ)
  pub scene : List ℕ
  pub state : PlainState
  pub turns_are : state.turn ≡ turns
  pub spells : Spells values scene state bytes

-- a run went on from so many turns for at most so many more, and its report was written
pub record GoesOn (from most : ℕ) (before now : Option (List ℕ)) : Type 0 where
  pub turns : ℕ
  pub on : from ≤ turns
  pub within : turns ≤ from + most
  pub reports : Reports turns before now

-- a loaded run went on, or is refused before anything is written, or was cut short
abbrev pub Resumes : ℕ → ℕ → Ending → Option (List ℕ) → Option (List ℕ) → Type 0
Resumes from most ending.Done before now = GoesOn from most before now
Resumes from most ending.OutOfMemory before now = AppendsSome before now
Resumes from most ending.WriteFault before now = AppendsSome before now
Resumes from most (ending.Refused word place broken) before now =
    (now ≡ before) × ((by : HeldRule) × (word ≡ 2) × (place ≡ Whole) × (broken ≡ rule.Held by) × IsBehindLoading by)
Resumes from most ending.NotBuilt before now = ⊥
Resumes from most ending.Usage before now = ⊥
Resumes from most (ending.ReadFault word) before now = ⊥

-- the report of a held run of these bytes that went on for at most so many turns
pub record IsRest (most : ℕ) (bytes text : List ℕ) : Type 0 where
  pub from : ℕ
  pub turns : ℕ
  pub held : IsHeldAt from bytes
  pub on : from ≤ turns
  pub within : turns ≤ from + most
  pub report : IsReport turns text
