-- What a command answers to its words and to the files that are held.
use Rattle.std.specs.Prelude.{◌≡◌, ℕ, List, [], length, drop, Option, Some, None}
use Rattle.papy_io.specs.Files.{Files}
use Rattle.papyrus_cmd.specs.declared.command.Command.{Command}
use Rattle.papyrus_cmd.specs.declared.command.Command.TheVariants as command
use Rattle.papyrus_cmd.specs.declared.command.FileCommand.{FileCommand}
use Rattle.papyrus_cmd.specs.declared.command.FileCommand.TheVariants as files
use Rattle.papyrus_cmd.specs.declared.command.PlayCommand.{PlayCommand}
use Rattle.papyrus_cmd.specs.declared.command.PlayCommand.TheVariants as play
use Rattle.command_files.specs.declared.ending.Ending.{Ending}
use Rattle.command_files.specs.declared.ending.Ending.TheVariants.{Done, OutOfMemory, Usage, ReadFault, WriteFault, Refused, NotBuilt}
use Rattle.pex_codec.specs.Decoding.{IsSpelling}
use Rattle.papyrus_cmd.specs.Asm.{IsUnbroken, RefusesListing}
use Rattle.papyrus_cmd.specs.Check.{accepted_line}
use Rattle.papyrus_cmd.specs.Command.{command_of}
use Rattle.papyrus_cmd.specs.Show.{Lists}
use Rattle.command_files.specs.Ending.{word_at}
use Rattle.papyrus_cmd.specs.Help.{help_text, version_text}
use Rattle.papyrus_cmd.specs.Lift.{RefusesLifted}
use Rattle.papyrus_cmd.specs.Upgrade.{RefusesText}
use Rattle.papyrus_cmd.specs.Waits.{PassesWith, RefusesJournal}
use Rattle.run_commands.specs.Answers.{ExecAnswers, HoldAnswers, JournalAnswers, OnceAnswers, ResumeAnswers, RunAnswers, SampleAnswers}
use Rattle.command_files.specs.Held.{AreHeld}
use Rattle.command_files.specs.Outputs.{AnswersTo}
use Rattle.command_files.specs.PexFile.{RefusesPex}
use Rattle.command_files.specs.Scripts.{HoldScripts, RefusesScripts}

-- how `compile` ends on the scripts of these names; it writes nothing to `out`
abbrev pub CompileAnswersTo : List (List ℕ) → Files → Ending → List ℕ → Type 0
CompileAnswersTo names files (Refused word place rule) text = RefusesScripts names files word place rule × (text ≡ [])
CompileAnswersTo names files NotBuilt text = HoldScripts names files × (text ≡ [])
CompileAnswersTo names files Done text = HoldScripts names files × (text ≡ [])
CompileAnswersTo names files OutOfMemory text = ⊥
CompileAnswersTo names files Usage text = ⊥
CompileAnswersTo names files (ReadFault word) text = ⊥
CompileAnswersTo names files WriteFault text = ⊥

-- how `lift` ends on the compiled files of these names; it writes nothing to `out`
abbrev pub LiftAnswersTo : List (List ℕ) → Files → Ending → List ℕ → Type 0
LiftAnswersTo names files (Refused word place rule) text = RefusesLifted names files word place rule × (text ≡ [])
LiftAnswersTo names files Done text = AreHeld names files × (text ≡ [])
LiftAnswersTo names files NotBuilt text = ⊥
LiftAnswersTo names files OutOfMemory text = ⊥
LiftAnswersTo names files Usage text = ⊥
LiftAnswersTo names files (ReadFault word) text = ⊥
LiftAnswersTo names files WriteFault text = ⊥

-- how `check` ends on a file with these bytes, and what it writes
abbrev pub CheckAnswers : List ℕ → Ending → List ℕ → Type 0
CheckAnswers bytes Done text = IsSpelling bytes × (text ≡ accepted_line (length bytes))
CheckAnswers bytes (Refused word place rule) text = (word ≡ 1) × RefusesPex bytes place rule × (text ≡ [])
CheckAnswers bytes NotBuilt text = ⊥
CheckAnswers bytes OutOfMemory text = ⊥
CheckAnswers bytes Usage text = ⊥
CheckAnswers bytes (ReadFault word) text = ⊥
CheckAnswers bytes WriteFault text = ⊥

-- how `show` ends on a file with these bytes, and what it writes
abbrev pub ShowAnswers : List ℕ → Ending → List ℕ → Type 0
ShowAnswers bytes Done text = Lists bytes text
ShowAnswers bytes (Refused word place rule) text = (word ≡ 1) × RefusesPex bytes place rule × (text ≡ [])
ShowAnswers bytes NotBuilt text = ⊥
ShowAnswers bytes OutOfMemory text = ⊥
ShowAnswers bytes Usage text = ⊥
ShowAnswers bytes (ReadFault word) text = ⊥
ShowAnswers bytes WriteFault text = ⊥

-- how `asm` ends on a listing; it writes nothing to `out`
abbrev pub AsmAnswers : List ℕ → Ending → List ℕ → Type 0
AsmAnswers listing Done text = IsUnbroken listing × (text ≡ [])
AsmAnswers listing (Refused word place rule) text = (word ≡ 1) × RefusesListing listing place rule × (text ≡ [])
AsmAnswers listing NotBuilt text = ⊥
AsmAnswers listing OutOfMemory text = ⊥
AsmAnswers listing Usage text = ⊥
AsmAnswers listing (ReadFault word) text = ⊥
AsmAnswers listing WriteFault text = ⊥

-- how `upgrade` ends on a scene; it writes nothing to `out`
abbrev pub UpgradeAnswers : List ℕ → Ending → List ℕ → Type 0
UpgradeAnswers scene Done text = text ≡ []
UpgradeAnswers scene (Refused word place rule) text = (word ≡ 1) × RefusesText scene place rule × (text ≡ [])
UpgradeAnswers scene NotBuilt text = ⊥
UpgradeAnswers scene OutOfMemory text = ⊥
UpgradeAnswers scene Usage text = ⊥
UpgradeAnswers scene (ReadFault word) text = ⊥
UpgradeAnswers scene WriteFault text = ⊥

-- how `waits` ends on a journal, and what it writes
abbrev pub WaitsAnswers : List ℕ → Ending → List ℕ → Type 0
WaitsAnswers journal Done text = PassesWith journal text
WaitsAnswers journal (Refused word place rule) text = (word ≡ 1) × RefusesJournal journal place rule × (text ≡ [])
WaitsAnswers journal NotBuilt text = ⊥
WaitsAnswers journal OutOfMemory text = ⊥
WaitsAnswers journal Usage text = ⊥
WaitsAnswers journal (ReadFault word) text = ⊥
WaitsAnswers journal WriteFault text = ⊥

-- how a command that works on files ends on the words behind it
abbrev pub FileCommandOn : FileCommand → List (List ℕ) → Files → Ending → List ℕ → Type 0
FileCommandOn files.Compile names held ending text = CompileAnswersTo names held ending text
FileCommandOn files.Check names held ending text = AnswersTo CheckAnswers (word_at names 0) held ending text
FileCommandOn files.Show names held ending text = AnswersTo ShowAnswers (word_at names 0) held ending text
FileCommandOn files.Asm names held ending text = AnswersTo AsmAnswers (word_at names 0) held ending text
FileCommandOn files.Upgrade names held ending text = AnswersTo UpgradeAnswers (word_at names 0) held ending text
FileCommandOn files.Waits names held ending text = AnswersTo WaitsAnswers (word_at names 0) held ending text
FileCommandOn files.Lift names held ending text = LiftAnswersTo names held ending text

-- how a command that runs scripts ends on the words behind it
abbrev pub PlayCommandOn : PlayCommand → List (List ℕ) → Files → Ending → List ℕ → Type 0
PlayCommandOn play.Once names held ending text = OnceAnswers names held ending text
PlayCommandOn play.Run names held ending text = RunAnswers names held ending text
PlayCommandOn play.Exec names held ending text = ExecAnswers names held ending text
PlayCommandOn play.Journal names held ending text = JournalAnswers names held ending text
PlayCommandOn (play.Hold turns) names held ending text = HoldAnswers names held ending text
PlayCommandOn (play.Resume turns) names held ending text = AnswersTo (ResumeAnswers turns) (word_at names 1) held ending text
PlayCommandOn (play.Sample workers) names held ending text = SampleAnswers workers ending text

-- how a command ends on the words behind it
abbrev pub CommandOn : Command → List (List ℕ) → Files → Ending → List ℕ → Type 0
CommandOn command.Help names held ending text = (ending ≡ Done) × (text ≡ help_text)
CommandOn command.Version names held ending text = (ending ≡ Done) × (text ≡ version_text)
CommandOn (command.Files work) names held ending text = FileCommandOn work names held ending text
CommandOn (command.Play work) names held ending text = PlayCommandOn work names held ending text

abbrev pub CommandAnswers : Option Command → List (List ℕ) → Files → Ending → List ℕ → Type 0
CommandAnswers None words held ending text = (ending ≡ Usage) × (text ≡ [])
CommandAnswers (Some command) words held ending text = CommandOn command (drop 1 words) held ending text

-- how the command that the words are ends, where these files are held and no device fails, and what it writes
abbrev pub Answers : List (List ℕ) → Files → Ending → List ℕ → Type 0
Answers words files ending text = CommandAnswers (command_of words) words files ending text
