-- What the commands that run scripts answer to the files that are held. Of a report they say that it comes where
-- every file is held, and that it tells how many turns were done, not which instances and stacks it tells of.
use Rattle.std.specs.Prelude.{◌≡◌, ◌⊎◌, ℕ, suc, List, [], ◌∷◌}
use Rattle.papy_io.specs.Files.{Files}
use Rattle.stack_machine.specs.Written.{IsLines}
use Rattle.command_files.specs.declared.ending.Ending.{Ending}
use Rattle.command_files.specs.declared.ending.Ending.TheVariants.{Done, OutOfMemory, Usage, ReadFault, WriteFault, Refused, NotBuilt}
use Rattle.command_files.specs.declared.refusal.Place.{Place}
use Rattle.command_files.specs.declared.refusal.Rule.{Rule}
use Rattle.command_files.specs.Held.{AreHeld, IsHeld}
use Rattle.command_files.specs.Scripts.{HoldScripts, RefusesScripts}
use Rattle.run_commands.specs.Hold.{IsTooLarge}
use Rattle.run_commands.specs.Play.{RefusesScene}
use Rattle.run_commands.specs.Program.{RefusesProgram, files_from, scene_of}
use Rattle.run_commands.specs.Resume.{IsRest, RefusesHeld}
use Rattle.run_commands.specs.Report.{IsClosingWithin, IsReportWithin, default_turns, most_turns, sample_text}

-- how `once` ends on the scripts of these names; the default scene is refused at the command's own word
abbrev pub OnceAnswers : List (List ℕ) → Files → Ending → List ℕ → Type 0
OnceAnswers names files (Refused word place rule) text =
    (RefusesScripts names files word place rule ⊎ (RefusesScene 0 word place rule × HoldScripts names files)) × (text ≡ [])
OnceAnswers names files Done text = HoldScripts names files × IsReportWithin default_turns text
OnceAnswers names files NotBuilt text = HoldScripts names files × (text ≡ [])
OnceAnswers names files OutOfMemory text = ⊥
OnceAnswers names files Usage text = ⊥
OnceAnswers names files (ReadFault word) text = ⊥
OnceAnswers names files WriteFault text = ⊥

-- scripts that stand behind a scene are refused
pub record RefusesBehind (scripts : List (List ℕ)) (files : Files) (word : ℕ) (place : Place) (rule : Rule) : Type 0 where
  pub script : ℕ
  pub word_is : word ≡ suc script
  pub refused : RefusesScripts scripts files script place rule

-- how `run` ends on a scene and scripts of these names
abbrev pub RunAnswersOn : List ℕ → List (List ℕ) → Files → Ending → List ℕ → Type 0
RunAnswersOn scene scripts files (Refused word place rule) text =
    IsHeld scene files × (RefusesScene 1 word place rule ⊎ RefusesBehind scripts files word place rule) × (text ≡ [])
RunAnswersOn scene scripts files Done text = IsHeld scene files × HoldScripts scripts files × IsReportWithin most_turns text
RunAnswersOn scene scripts files NotBuilt text = IsHeld scene files × HoldScripts scripts files × (text ≡ [])
RunAnswersOn scene scripts files OutOfMemory text = ⊥
RunAnswersOn scene scripts files Usage text = ⊥
RunAnswersOn scene scripts files (ReadFault word) text = ⊥
RunAnswersOn scene scripts files WriteFault text = ⊥

abbrev pub RunAnswers : List (List ℕ) → Files → Ending → List ℕ → Type 0
RunAnswers (scene ∷ scripts) files ending text = RunAnswersOn scene scripts files ending text
RunAnswers [] files ending text = ⊥

-- how a command ends that runs compiled files on a scene, whose words these numbers tell
abbrev pub ProgramAnswers : ℕ → ℕ → List (List ℕ) → Files → Ending → List ℕ → Type 0
ProgramAnswers named first words files (Refused word place rule) text = RefusesProgram named first words files word place rule × (text ≡ [])
ProgramAnswers named first words files Done text = IsHeld (scene_of named words) files × AreHeld (files_from first words) files × IsReportWithin most_turns text
ProgramAnswers named first words files NotBuilt text = ⊥
ProgramAnswers named first words files OutOfMemory text = ⊥
ProgramAnswers named first words files Usage text = ⊥
ProgramAnswers named first words files (ReadFault word) text = ⊥
ProgramAnswers named first words files WriteFault text = ⊥

-- how `exec` ends on the words behind it: a scene, and compiled files
abbrev pub ExecAnswers : List (List ℕ) → Files → Ending → List ℕ → Type 0
ExecAnswers words files ending text = ProgramAnswers 1 2 words files ending text

-- how `journal` ends on the words behind it: a scene, the file that it writes, and compiled files
abbrev pub JournalAnswers : List (List ℕ) → Files → Ending → List ℕ → Type 0
JournalAnswers words files ending text = ProgramAnswers 1 3 words files ending text

-- how `hold` ends on the words behind it: a number, a scene, the file that it writes, and compiled files. Of what it
-- writes to `out` they say that it is whole lines.
abbrev pub HoldAnswers : List (List ℕ) → Files → Ending → List ℕ → Type 0
HoldAnswers words files (Refused word place rule) text =
    (RefusesProgram 2 4 words files word place rule × (text ≡ []))
    ⊎ (IsTooLarge 3 word place rule × IsHeld (scene_of 2 words) files × AreHeld (files_from 4 words) files × IsLines text)
HoldAnswers words files Done text = IsHeld (scene_of 2 words) files × AreHeld (files_from 4 words) files × IsLines text
HoldAnswers words files NotBuilt text = ⊥
HoldAnswers words files OutOfMemory text = ⊥
HoldAnswers words files Usage text = ⊥
HoldAnswers words files (ReadFault word) text = ⊥
HoldAnswers words files WriteFault text = ⊥

-- how `resume` ends on a file of these bytes, with at most so many turns
abbrev pub ResumeAnswers : ℕ → List ℕ → Ending → List ℕ → Type 0
ResumeAnswers most bytes Done text = IsRest most bytes text
ResumeAnswers most bytes (Refused word place rule) text = (word ≡ 2) × RefusesHeld bytes place rule × (text ≡ [])
ResumeAnswers most bytes NotBuilt text = ⊥
ResumeAnswers most bytes OutOfMemory text = ⊥
ResumeAnswers most bytes Usage text = ⊥
ResumeAnswers most bytes (ReadFault word) text = ⊥
ResumeAnswers most bytes WriteFault text = ⊥

-- how `sample` ends with so many workers; its scene is refused at the command's own word
abbrev pub SampleAnswers : ℕ → Ending → List ℕ → Type 0
SampleAnswers workers Done text = (closing : List ℕ) × IsClosingWithin most_turns closing × (text ≡ sample_text workers closing)
SampleAnswers workers (Refused word place rule) text = RefusesScene 0 word place rule × (text ≡ [])
SampleAnswers workers NotBuilt text = text ≡ []
SampleAnswers workers OutOfMemory text = ⊥
SampleAnswers workers Usage text = ⊥
SampleAnswers workers (ReadFault word) text = ⊥
SampleAnswers workers WriteFault text = ⊥

-- no file is read
abbrev pub ReadsNothing : Ending → Type 0
ReadsNothing (ReadFault word) = ⊥
ReadsNothing _ = Unit {0}
