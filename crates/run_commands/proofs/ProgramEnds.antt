-- How a command ends that runs compiled files on a scene.
use Rattle.std.proofs.Common.{arith, ◌≡◌, ℕ, List, length, take, refl, inl, inr}
use Rattle.std.proofs.lemmas.Grind.{common_steps}
use Rattle.std.specs.Prelude.{Option, None, Some, Bool, IfSome}
use Rattle.core_tree.specs.declared.scene_tree.SceneTree.{SceneTree}
use Rattle.papy_io.specs.Files.{Files}
use Rattle.papy_io.specs.declared.fault.IoFault.{IoFault}
use Rattle.papy_io.specs.declared.fault.IoFault.TheVariants as io
use Rattle.command_files.specs.declared.ending.Ending.{Ending}
use Rattle.command_files.specs.declared.ending.Ending.TheVariants.{Done, OutOfMemory, Usage, ReadFault, WriteFault, Refused, NotBuilt}
use Rattle.command_files.specs.Ending.{write_ending}
use Rattle.command_files.specs.Held.{AreHeld, IsHeld}
use Rattle.command_files.specs.Outputs.{IsPart, Outputs}
use Rattle.run_commands.specs.Answers.{ProgramAnswers}
use Rattle.run_commands.specs.Play.{Plays}
use Rattle.run_commands.specs.Program.{EndsOnProgram, IsHeldProgram, MissesRead, files_from, scene_of}
use Rattle.run_commands.specs.Report.{most_turns}
use Rattle.run_commands.specs.declared.program.Program.{Program}
use Rattle.run_commands.proofs.EarlyEnds.{EndsEarly}
use Rattle.run_commands.proofs.ProgramRead.{kept_are_held}
use Rattle.run_commands.proofs.RunEnds.{AnswersRun}

pub program_ends : (number first : ℕ) (words : List (List ℕ)) (holds : Option Files) (ending : Ending) → EndsOnProgram number first words holds ending → EndsEarly (ProgramAnswers number first words) holds ending
program_ends number first words None (Refused word place rule) ends = tt
program_ends number first words (Some files) (Refused word place rule) ends = (ends, refl)
program_ends number first words holds (ReadFault word) ends = tt
program_ends number first words holds OutOfMemory ends = tt
program_ends number first words holds Done ends = absurd ends
program_ends number first words holds Usage ends = absurd ends
program_ends number first words holds WriteFault ends = absurd ends
program_ends number first words holds NotBuilt ends = absurd ends

-- the scene and the files of a program that was read
held-parts : (keep : Bool) (number first : ℕ) (words : List (List ℕ)) (program : Program) (files : Files) → IsHeldProgram number first keep words program files → IsHeld (scene_of number words) files × AreHeld (files_from first words) files
held-parts keep number first words program files held =
    ((program.text.items, held.scene), kept_are_held keep (Some files) (files_from first words) program.kept.items held.values)

pub program_runs : (keep : Bool) (number first : ℕ) (words : List (List ℕ)) (program : Program) (holds : Option Files) → IfSome holds (IsHeldProgram number first keep words program) → IfSome holds (AnswersRun (ProgramAnswers number first words) most_turns number)
program_runs keep number first words program None held = tt
program_runs keep number first words program (Some files) held =
    let parts = held-parts keep number first words program files held in
    record { done = λ text report. (parts.0, parts.1, report); refused = λ word place rule refuses. ((parts.0, inl refuses), refl) }

-- a run that has begun misses no file
pub run_misses_none : (tree : SceneTree) (named number first : ℕ) (words : List (List ℕ)) (ending : Ending) (written written' missed : Option (List ℕ)) → Plays tree named ending written written' → MissesRead number first words ending missed
run_misses_none tree named number first words Done written written' missed plays = tt
run_misses_none tree named number first words OutOfMemory written written' missed plays = tt
run_misses_none tree named number first words WriteFault written written' missed plays = tt
run_misses_none tree named number first words (Refused word place rule) written written' missed plays = tt
run_misses_none tree named number first words NotBuilt written written' missed plays = tt
run_misses_none tree named number first words Usage written written' missed plays = tt
run_misses_none tree named number first words (ReadFault word) written written' missed plays = absurd plays

-- all that was to be printed was, and then a file wasn't written
whole-part : (Ends : Files → Ending → List ℕ → Type 0) (holds : Option Files) (text : List ℕ) → IfSome holds (λ files. Ends files Done text) → IfSome holds (λ files. IsPart (Ends files) text)
whole-part Ends None text ends = tt
whole-part Ends (Some files) text ends = let whole : text ≡ take (length text) text = grind (arith, common_steps) in inr (text, length text, ends, whole)

pub unwritten_outputs : (Ends : Files → Ending → List ℕ → Type 0) (holds : Option Files) (fault : IoFault) (before now : Option (List ℕ)) → Outputs Ends holds Done before now → Outputs Ends holds (write_ending fault) before now
unwritten_outputs Ends holds io.Failed before now (text, appended, ends) = (text, appended, whole-part Ends holds text ends)
unwritten_outputs Ends holds io.OutOfMemory before now (text, appended, ends) = (text, appended, whole-part Ends holds text ends)
