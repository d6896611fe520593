-- What the status of the top call says of its words, its devices and what was written.
use Rattle.std.specs.Prelude.{◌≡◌, ◌≢◌, ◌⊎◌, ℕ, Bool, true, false, List, take, drop, Option, None, Some, Result, Ok, Err, IfSome, Contains}
use Rattle.papy_io.specs.declared.fault.IoFault.{IoFault}
use Rattle.papy_io.specs.declared.fault.IoFault.TheVariants as io
use Rattle.papy_io.specs.Count.{HasRisen, CountsFaults}
use Rattle.papy_io.specs.Files.{Files}
use Rattle.papy_io.specs.Sink.{Appended, SinkWrites}
use Rattle.command_files.specs.declared.ending.Ending.{Ending}
use Rattle.command_files.specs.declared.ending.Ending.TheVariants.{Done, OutOfMemory, Usage, ReadFault, WriteFault, Refused, NotBuilt}
use Rattle.command_files.specs.Outputs.{IsPart}
use Rattle.papyrus_cmd.specs.Answers.{Answers}
use Rattle.papyrus_cmd.specs.declared.command.Command.{Command}
use Rattle.papyrus_cmd.specs.declared.command.Command.TheVariants as command
use Rattle.papyrus_cmd.specs.declared.command.FileCommand.{FileCommand}
use Rattle.papyrus_cmd.specs.declared.command.FileCommand.TheVariants as files
use Rattle.papyrus_cmd.specs.declared.command.PlayCommand.{PlayCommand}
use Rattle.papyrus_cmd.specs.declared.command.PlayCommand.TheVariants as play
use Rattle.run_commands.specs.Hold.{HoldLeaves, MayWriteHeld}
use Rattle.run_commands.specs.Journal.{JournalLeaves, MayHoldNoted}
use Rattle.papyrus_cmd.specs.Asm.{AsmLeaves, MayWrite}
use Rattle.papyrus_cmd.specs.Command.{command_of, files_read}
use Rattle.papyrus_cmd.specs.Compile.{CompileLeaves, MayCompile}
use Rattle.papyrus_cmd.specs.Lift.{LiftLeaves, MayLift}
use Rattle.papyrus_cmd.specs.Upgrade.{MayUpgrade, UpgradeLeaves}
use Rattle.command_files.specs.Ending.{status_of, note_of, cannot_read, out_of_memory, word_at}
use Rattle.command_files.specs.Refusal.{rule_status}

-- every status that there is
abbrev pub IsStatus : ℕ → Type 0
IsStatus status = (status ≡ 0) ⊎ (status ≡ 1) ⊎ (status ≡ 2) ⊎ (status ≡ 3) ⊎ (status ≡ 4) ⊎ (status ≡ 5) ⊎ (status ≡ 6) ⊎ (status ≡ 7) ⊎ (status ≡ 8) ⊎ (status ≡ 9) ⊎ (status ≡ 10) ⊎ (status ≡ 11) ⊎ (status ≡ 12) ⊎ (status ≡ 13)

-- memory was found, and no device failed
pub record IsAnswer (status : ℕ) : Type 0 where
  pub memory : status ≢ 1
  pub was_read : status ≢ 3
  pub was_written : status ≢ 4

-- no memory was found, or a write failed
abbrev pub WasCut : ℕ → Type 0
WasCut status = (status ≡ 1) ⊎ (status ≡ 4)

-- what the files are by the way that a command on files of these names ended
abbrev pub FileCommandLeaves : FileCommand → List (List ℕ) → Ending → Option Files → Option Files → Type 0
FileCommandLeaves files.Compile names ending holds left = CompileLeaves names ending holds left
FileCommandLeaves files.Check names ending holds left = left ≡ holds
FileCommandLeaves files.Show names ending holds left = left ≡ holds
FileCommandLeaves files.Waits names ending holds left = left ≡ holds
FileCommandLeaves files.Asm names ending holds left = AsmLeaves (word_at names 0) (word_at names 1) ending holds left
FileCommandLeaves files.Upgrade names ending holds left = UpgradeLeaves (word_at names 1) ending holds left
FileCommandLeaves files.Lift names ending holds left = LiftLeaves names ending holds left

-- what the files are by the way that a command that runs scripts ended, and what it has written
abbrev pub PlayCommandLeaves : PlayCommand → List (List ℕ) → Ending → Option (List ℕ) → Option (List ℕ) → Option Files → Option Files → Type 0
PlayCommandLeaves play.Once names ending before now holds left = left ≡ holds
PlayCommandLeaves play.Run names ending before now holds left = left ≡ holds
PlayCommandLeaves play.Exec names ending before now holds left = left ≡ holds
PlayCommandLeaves play.Journal names ending before now holds left = JournalLeaves (word_at names 1) ending before now holds left
PlayCommandLeaves (play.Hold turns) names ending before now holds left = HoldLeaves turns names (word_at names 2) ending holds left
PlayCommandLeaves (play.Resume turns) names ending before now holds left = left ≡ holds
PlayCommandLeaves (play.Sample workers) names ending before now holds left = left ≡ holds

-- what the files are by the way that a command on these words ended, and what it has written
abbrev pub CommandLeaves : Option Command → List (List ℕ) → Ending → Option (List ℕ) → Option (List ℕ) → Option Files → Option Files → Type 0
CommandLeaves (Some (command.Files work)) names ending before now holds left = FileCommandLeaves work names ending holds left
CommandLeaves (Some (command.Play work)) names ending before now holds left = PlayCommandLeaves work names ending before now holds left
CommandLeaves (Some command.Help) names ending before now holds left = left ≡ holds
CommandLeaves (Some command.Version) names ending before now holds left = left ≡ holds
CommandLeaves None names ending before now holds left = left ≡ holds

abbrev pub FilesLeft : List (List ℕ) → Ending → Option (List ℕ) → Option (List ℕ) → Option Files → Option Files → Type 0
FilesLeft words ending before now holds left = CommandLeaves (command_of words) (drop 1 words) ending before now holds left

-- what the files may be where a command on files of these names was cut short
abbrev pub FileCommandCut : FileCommand → List (List ℕ) → Option Files → Option Files → Type 0
FileCommandCut files.Compile names holds left = MayCompile names holds left
FileCommandCut files.Check names holds left = left ≡ holds
FileCommandCut files.Show names holds left = left ≡ holds
FileCommandCut files.Waits names holds left = left ≡ holds
FileCommandCut files.Asm names holds left = MayWrite (word_at names 0) (word_at names 1) holds left
FileCommandCut files.Upgrade names holds left = MayUpgrade (word_at names 1) holds left
FileCommandCut files.Lift names holds left = MayLift names holds left

-- the same of a command that runs scripts
abbrev pub PlayCommandCut : PlayCommand → List (List ℕ) → Option Files → Option Files → Type 0
PlayCommandCut play.Once names holds left = left ≡ holds
PlayCommandCut play.Run names holds left = left ≡ holds
PlayCommandCut play.Exec names holds left = left ≡ holds
PlayCommandCut play.Journal names holds left = MayHoldNoted (word_at names 1) holds left
PlayCommandCut (play.Hold turns) names holds left = MayWriteHeld turns names (word_at names 2) holds left
PlayCommandCut (play.Resume turns) names holds left = left ≡ holds
PlayCommandCut (play.Sample workers) names holds left = left ≡ holds

-- what the files may be where a command was cut short
abbrev pub CommandCut : Option Command → List (List ℕ) → Option Files → Option Files → Type 0
CommandCut (Some (command.Files work)) names holds left = FileCommandCut work names holds left
CommandCut (Some (command.Play work)) names holds left = PlayCommandCut work names holds left
CommandCut (Some command.Help) names holds left = left ≡ holds
CommandCut (Some command.Version) names holds left = left ≡ holds
CommandCut None names holds left = left ≡ holds

abbrev pub FilesCut : List (List ℕ) → Option Files → Option Files → Type 0
FilesCut words holds left = CommandCut (command_of words) (drop 1 words) holds left

-- the commands that write files
abbrev pub file_command_writes : FileCommand → Bool
file_command_writes files.Compile = true
file_command_writes files.Check = false
file_command_writes files.Show = false
file_command_writes files.Asm = true
file_command_writes files.Upgrade = true
file_command_writes files.Waits = false
file_command_writes files.Lift = true

abbrev pub play_command_writes : PlayCommand → Bool
play_command_writes play.Once = false
play_command_writes play.Run = false
play_command_writes play.Exec = false
play_command_writes play.Journal = true
play_command_writes (play.Hold turns) = true
play_command_writes (play.Resume turns) = false
play_command_writes (play.Sample workers) = false

abbrev pub writes_files : Option Command → Bool
writes_files (Some (command.Files work)) = file_command_writes work
writes_files (Some (command.Play work)) = play_command_writes work
writes_files (Some command.Help) = false
writes_files (Some command.Version) = false
writes_files None = false

abbrev pub WritesNone : List (List ℕ) → Type 0
WritesNone words = writes_files (command_of words) ≡ false

-- the commands that run scripts
abbrev pub runs_scripts : Option Command → Bool
runs_scripts (Some (command.Play work)) = true
runs_scripts (Some (command.Files work)) = false
runs_scripts (Some command.Help) = false
runs_scripts (Some command.Version) = false
runs_scripts None = false

abbrev pub RunsNone : List (List ℕ) → Type 0
RunsNone words = runs_scripts (command_of words) ≡ false

-- the command ended so: with this status, all of its text on `out` and its line on `notes`
pub record Answered (words : List (List ℕ)) (holds left : Option Files) (status : ℕ) (out_before out_now notes_before notes_now : Option (List ℕ)) : Type 0 where
  pub ending : Ending
  pub text : List ℕ
  pub status_is : status ≡ status_of ending
  pub out : Appended text out_before out_now
  pub notes : Appended (note_of words ending) notes_before notes_now
  pub answers : IfSome holds (λ files. Answers words files ending text)
  pub files : FilesLeft words ending out_before out_now holds left

-- the command was cut short: the first part of its text is on `out`, and the first part of some line on `notes`
pub record CutShort (words : List (List ℕ)) (holds : Option Files) (out_before out_now notes_before notes_now : Option (List ℕ)) : Type 0 where
  pub part : List ℕ
  pub ending : Ending
  pub length_noted : ℕ
  pub out : Appended part out_before out_now
  pub notes : Appended (take length_noted (note_of words ending)) notes_before notes_now
  pub is_part : IfSome holds (λ files. IsPart (Answers words files) part)

-- a file that the command reads was not read: it is the one missed, and the line names it
pub record NotRead (words : List (List ℕ)) (missed : Option (List ℕ)) (faults_before faults_now : ℕ) (out_before out_now notes_before notes_now : Option (List ℕ)) : Type 0 where
  pub file : List ℕ
  pub read : Contains (files_read words) file
  pub missed_is : missed ≡ Some file
  pub faults : HasRisen faults_before faults_now
  pub out : out_now ≡ out_before
  pub notes : Appended (cannot_read file) notes_before notes_now

-- the status of a line that should have this one, where writing it gave this
abbrev pub noted_status : {T : Type 0} → Result T IoFault → ℕ → ℕ
noted_status (Ok _) status = status
noted_status (Err io.Failed) status = 4
noted_status (Err io.OutOfMemory) status = 1

-- the line was written, with this status, or writing it failed or found no memory
abbrev pub Noted : List ℕ → ℕ → ℕ → Option (List ℕ) → Option (List ℕ) → ℕ → ℕ → Type 0
Noted line wanted status before now faults_before faults_now =
    (wrote : Result (Unit {0}) IoFault) × (status ≡ noted_status wrote wanted) × SinkWrites wrote line before now × CountsFaults wrote faults_before faults_now

-- as much of the line was written as could be
abbrev pub Tried : List ℕ → Option (List ℕ) → Option (List ℕ) → Type 0
Tried line before now = (n : ℕ) × Appended (take n line) before now

-- the line that names a file was written, or there was no memory for it
abbrev pub ToldOfFile : List ℕ → ℕ → ℕ → Option (List ℕ) → Option (List ℕ) → ℕ → ℕ → Type 0
ToldOfFile line wanted status before now faults_before faults_now =
    Noted line wanted status before now faults_before faults_now
    ⊎ ((status ≡ 1) × Tried out_of_memory before now)

-- what is told of each ending, and the status after it
abbrev pub Told : List (List ℕ) → Ending → ℕ → Option (List ℕ) → Option (List ℕ) → ℕ → ℕ → Type 0
Told words Done status before now faults_before faults_now = (status ≡ 0) × (now ≡ before) × (faults_now ≡ faults_before)
Told words OutOfMemory status before now faults_before faults_now = (status ≡ 1) × Tried out_of_memory before now
Told words WriteFault status before now faults_before faults_now = (status ≡ 4) × Tried (note_of words WriteFault) before now
Told words Usage status before now faults_before faults_now = Noted (note_of words Usage) 2 status before now faults_before faults_now
Told words NotBuilt status before now faults_before faults_now = Noted (note_of words NotBuilt) 10 status before now faults_before faults_now
Told words (ReadFault word) status before now faults_before faults_now =
    ToldOfFile (note_of words (ReadFault word)) 3 status before now faults_before faults_now
Told words (Refused word place rule) status before now faults_before faults_now =
    ToldOfFile (note_of words (Refused word place rule)) (rule_status rule) status before now faults_before faults_now
