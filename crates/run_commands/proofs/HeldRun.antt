-- How `hold` ends, and what it leaves.
use Rattle.std.proofs.Common.{arith, ◌≡◌, ◌≢◌, ◌<◌, ℕ, true, List, [], ◌∷◌, ◌++◌, length, map, take, sym, refl, inl, inr}
use Rattle.std.proofs.Math.Seq.{take-append_seam}
use Rattle.std.proofs.lemmas.Grind.{common_steps}
use Rattle.std.specs.Prelude.{Option, None, Some, Ok, Err, IfSome}
use Rattle.papy_io.specs.Files.{Files}
use Rattle.papy_io.specs.WriteFile.{WritesFile}
use Rattle.papy_io.specs.declared.fault.IoFault.{IoFault}
use Rattle.papy_io.specs.declared.fault.IoFault.TheVariants as io
use Rattle.papy_io.proofs.Appending.{appends_nothing}
use Rattle.stack_machine.specs.Written.{AppendsLines, IsLines}
use Rattle.core_tree.specs.declared.scene_tree.SceneTree.{SceneTree}
use Rattle.papy_base.specs.Bytes.{bytes_of}
use Rattle.command_files.specs.declared.ending.Ending.{Ending}
use Rattle.command_files.specs.declared.ending.Ending.TheVariants.{Done, OutOfMemory, Usage, ReadFault, WriteFault, Refused, NotBuilt}
use Rattle.command_files.specs.declared.refusal.Place.{Place}
use Rattle.command_files.specs.declared.refusal.Rule.{Rule}
use Rattle.command_files.specs.Ending.{CountsReads, IsWordBelow, write_ending}
use Rattle.command_files.specs.Outputs.{IsPart, Outputs}
use Rattle.run_commands.specs.Answers.{HoldAnswers}
use Rattle.run_commands.specs.Hold.{HoldLeaves, HoldsProgram, HoldsRun, IsHeldRun, IsTooLarge, PlaysHeld}
use Rattle.run_commands.specs.Play.{RefusesScene, Starts}
use Rattle.run_commands.specs.Program.{EndsOnProgram, IsHeldProgram, MissesRead, files_from, scene_of}
use Rattle.run_commands.specs.declared.program.Program.{Program}
use Rattle.run_commands.proofs.EarlyEnds.{EndsEarly}

-- ---- a run that was held or not

pub unstarted_held : (tree : SceneTree) (most : ℕ) (values : List (List ℕ)) (scene : List ℕ) (ending : Ending) (written : Option (List ℕ)) → Starts tree 2 (Err ending) → PlaysHeld most values scene (Err ending) written written
unstarted_held tree most values scene (Refused word place rule) written starts = inl (starts, refl)
unstarted_held tree most values scene OutOfMemory written starts = appends_nothing written written refl
unstarted_held tree most values scene Done written starts = absurd starts
unstarted_held tree most values scene Usage written starts = absurd starts
unstarted_held tree most values scene WriteFault written starts = absurd starts
unstarted_held tree most values scene NotBuilt written starts = absurd starts
unstarted_held tree most values scene (ReadFault word) written starts = absurd starts

-- ---- what is left

pub early_held : (most : ℕ) (words : List (List ℕ)) (holds : Option Files) (file : List ℕ) (ending : Ending) → EndsOnProgram 2 4 words holds ending → HoldLeaves most words file ending holds holds
early_held most words holds file (Refused word place rule) ends = refl
early_held most words holds file (ReadFault word) ends = refl
early_held most words holds file OutOfMemory ends = inl refl
early_held most words holds file Done ends = absurd ends
early_held most words holds file Usage ends = absurd ends
early_held most words holds file WriteFault ends = absurd ends
early_held most words holds file NotBuilt ends = absurd ends

pub short_held : (most : ℕ) (words values : List (List ℕ)) (scene file : List ℕ) (ending : Ending) (before now : Option (List ℕ)) (holds : Option Files) → PlaysHeld most values scene (Err ending) before now → HoldLeaves most words file ending holds holds
short_held most words values scene file (Refused word place rule) before now holds plays = refl
short_held most words values scene file (ReadFault word) before now holds plays = absurd plays
short_held most words values scene file OutOfMemory before now holds plays = inl refl
short_held most words values scene file WriteFault before now holds plays = inl refl
short_held most words values scene file Done before now holds plays = absurd plays
short_held most words values scene file Usage before now holds plays = absurd plays
short_held most words values scene file NotBuilt before now holds plays = absurd plays

holds-program : (words : List (List ℕ)) (program : Program) (holds : Option Files) → IfSome holds (IsHeldProgram 2 4 true words program) → IfSome holds (HoldsProgram words (map bytes_of program.kept.items) program.text.items)
holds-program words program None held = tt
holds-program words program (Some files) held = record { scene_held = held.scene; values_held = held.values }

held-run : (most : ℕ) (words : List (List ℕ)) (program : Program) (holds : Option Files) (bytes : List ℕ) → IfSome holds (IsHeldProgram 2 4 true words program) → IsHeldRun most (map bytes_of program.kept.items) program.text.items bytes → HoldsRun most words holds bytes
held-run most words program holds bytes held run = record { values = map bytes_of program.kept.items; scene = program.text.items; run = run; held = holds-program words program holds held }

pub whole_held : (most : ℕ) (words : List (List ℕ)) (program : Program) (file bytes : List ℕ) (old new : Option Files) → IfSome old (IsHeldProgram 2 4 true words program) → IsHeldRun most (map bytes_of program.kept.items) program.text.items bytes → WritesFile {T = Unit {0}} file bytes (Ok tt) old new →
    HoldLeaves most words file Done old new
whole_held most words program file bytes old new held run wrote = (bytes, held-run most words program old bytes held run, wrote)

pub cut_held : (most : ℕ) (words : List (List ℕ)) (program : Program) (file bytes : List ℕ) (fault : IoFault) (old new : Option Files) → IfSome old (IsHeldProgram 2 4 true words program) → IsHeldRun most (map bytes_of program.kept.items) program.text.items bytes → WritesFile {T = Unit {0}} file bytes (Err fault) old new →
    HoldLeaves most words file (write_ending fault) old new
cut_held most words program file bytes io.Failed old new held run wrote = inr (bytes, held-run most words program old bytes held run, wrote)
cut_held most words program file bytes io.OutOfMemory old new held run wrote = inr (bytes, held-run most words program old bytes held run, wrote)

-- ---- what it doesn't do

pub held_reads : (most : ℕ) (values : List (List ℕ)) (scene : List ℕ) (ending : Ending) (written written' : Option (List ℕ)) (before now : ℕ) → PlaysHeld most values scene (Err ending) written written' → now ≡ before → CountsReads ending before now
held_reads most values scene (Refused word place rule) written written' before now plays same = same
held_reads most values scene (ReadFault word) written written' before now plays same = absurd plays
held_reads most values scene OutOfMemory written written' before now plays same = same
held_reads most values scene WriteFault written written' before now plays same = same
held_reads most values scene Done written written' before now plays same = same
held_reads most values scene Usage written written' before now plays same = same
held_reads most values scene NotBuilt written written' before now plays same = same

pub held_misses : (most : ℕ) (words values : List (List ℕ)) (scene : List ℕ) (ending : Ending) (written written' missed : Option (List ℕ)) → PlaysHeld most values scene (Err ending) written written' → MissesRead 2 4 words ending missed
held_misses most words values scene (Refused word place rule) written written' missed plays = tt
held_misses most words values scene (ReadFault word) written written' missed plays = absurd plays
held_misses most words values scene OutOfMemory written written' missed plays = tt
held_misses most words values scene WriteFault written written' missed plays = tt
held_misses most words values scene Done written written' missed plays = tt
held_misses most words values scene Usage written written' missed plays = tt
held_misses most words values scene NotBuilt written written' missed plays = tt

pub held_is_no_usage : (most : ℕ) (values : List (List ℕ)) (scene : List ℕ) (ending : Ending) (written written' : Option (List ℕ)) → PlaysHeld most values scene (Err ending) written written' → ending ≢ Usage
held_is_no_usage most values scene (Refused word place rule) written written' plays = λ is. cc
held_is_no_usage most values scene (ReadFault word) written written' plays = λ is. cc
held_is_no_usage most values scene OutOfMemory written written' plays = λ is. cc
held_is_no_usage most values scene WriteFault written written' plays = λ is. cc
held_is_no_usage most values scene Done written written' plays = λ is. cc
held_is_no_usage most values scene Usage written written' plays = λ is. plays
held_is_no_usage most values scene NotBuilt written written' plays = λ is. cc

pub held_word : (most count : ℕ) (values : List (List ℕ)) (scene : List ℕ) (ending : Ending) (written written' : Option (List ℕ)) → 3 < count → PlaysHeld most values scene (Err ending) written written' → IsWordBelow count ending
held_word most count values scene (Refused word place rule) written written' within (inl (refuses, same)) = omega (arith, refuses.word_is)
held_word most count values scene (Refused word place rule) written written' within (inr (large, appends)) = omega (arith, large.word_is)
held_word most count values scene (ReadFault word) written written' within plays = absurd plays
held_word most count values scene OutOfMemory written written' within plays = tt
held_word most count values scene WriteFault written written' within plays = tt
held_word most count values scene Done written written' within plays = tt
held_word most count values scene Usage written written' within plays = tt
held_word most count values scene NotBuilt written written' within plays = tt

-- ---- what it has written

-- the scene and the files are held
abbrev pub AreThere : List (List ℕ) → Files → Type 0
AreThere words files = Rattle.command_files.specs.Held.IsHeld (scene_of 2 words) files × Rattle.command_files.specs.Held.AreHeld (files_from 4 words) files

pub are_there : (words : List (List ℕ)) (program : Program) (holds : Option Files) → IfSome holds (IsHeldProgram 2 4 true words program) → IfSome holds (AreThere words)
are_there words program None held = tt
are_there words program (Some files) held = ((program.text.items, held.scene), (map bytes_of program.kept.items, held.values))

any-done : (words : List (List ℕ)) (holds : Option Files) (text : List ℕ) → IfSome holds (AreThere words) → IsLines text → IfSome holds (λ files. HoldAnswers words files Done text)
any-done words None text there lines = tt
any-done words (Some files) text there lines = (there.0, there.1, lines)

-- lines that were written before the held file was found too large
lines-part : (words : List (List ℕ)) (holds : Option Files) (text : List ℕ) → IfSome holds (AreThere words) → IsLines text → IfSome holds (λ files. IsPart (HoldAnswers words files) text)
lines-part words None text there lines = tt
lines-part words (Some files) text there lines = let whole : text ≡ take (length text) text = grind (arith, common_steps) in inr (text, length text, (there.0, there.1, lines), whole)

-- bytes that whole lines may begin with
any-part : (words : List (List ℕ)) (holds : Option Files) (text : List ℕ) → IfSome holds (AreThere words) → IfSome holds (λ files. IsPart (HoldAnswers words files) text)
any-part words None text there = tt
any-part words (Some files) text there = inr (text ++ 10 ∷ [], length text, (there.0, there.1, inr (text, refl)), sym (take-append_seam text (10 ∷ [])))

refused-scene : (words : List (List ℕ)) (holds : Option Files) (word : ℕ) (place : Place) (rule : Rule) → IfSome holds (AreThere words) → RefusesScene 2 word place rule → IfSome holds (λ files. HoldAnswers words files (Refused word place rule) [])
refused-scene words None word place rule there refuses = tt
refused-scene words (Some files) word place rule there refuses = inl ((there.0, inl refuses), refl)

too-large : (words : List (List ℕ)) (holds : Option Files) (word : ℕ) (place : Place) (rule : Rule) (text : List ℕ) → IfSome holds (AreThere words) → IsTooLarge 3 word place rule → IsLines text → IfSome holds (λ files. HoldAnswers words files (Refused word place rule) text)
too-large words None word place rule text there large lines = tt
too-large words (Some files) word place rule text there large lines = inr (large, there.0, there.1, lines)

pub held_outputs : (most : ℕ) (words values : List (List ℕ)) (scene : List ℕ) (holds : Option Files) (ending : Ending) (before now : Option (List ℕ)) → IfSome holds (AreThere words) → PlaysHeld most values scene (Err ending) before now → Outputs (HoldAnswers words) holds ending before now
held_outputs most words values scene holds (Refused word place rule) before now there (inl (refuses, same)) = inl (same, refused-scene words holds word place rule there refuses)
held_outputs most words values scene holds (Refused word place rule) before now there (inr (large, appends)) =
    inr (record { rule_is = large.rule_is; text = appends.bytes; appended = appends.appended; ends = too-large words holds word place rule appends.bytes there large appends.lines; part = lines-part words holds appends.bytes there appends.lines })
held_outputs most words values scene holds OutOfMemory before now there plays = (plays.bytes, plays.appended, any-part words holds plays.bytes there)
held_outputs most words values scene holds WriteFault before now there plays = (plays.bytes, plays.appended, any-part words holds plays.bytes there)
held_outputs most words values scene holds (ReadFault word) before now there plays = absurd plays
held_outputs most words values scene holds Done before now there plays = absurd plays
held_outputs most words values scene holds Usage before now there plays = absurd plays
held_outputs most words values scene holds NotBuilt before now there plays = absurd plays

pub done_outputs : (words : List (List ℕ)) (holds : Option Files) (before now : Option (List ℕ)) → IfSome holds (AreThere words) → AppendsLines before now → Outputs (HoldAnswers words) holds Done before now
done_outputs words holds before now there appends = (appends.bytes, appends.appended, any-done words holds appends.bytes there appends.lines)

pub hold_ends : (words : List (List ℕ)) (holds : Option Files) (ending : Ending) → EndsOnProgram 2 4 words holds ending → EndsEarly (HoldAnswers words) holds ending
hold_ends words None (Refused word place rule) ends = tt
hold_ends words (Some files) (Refused word place rule) ends = inl (ends, refl)
hold_ends words holds (ReadFault word) ends = tt
hold_ends words holds OutOfMemory ends = tt
hold_ends words holds Done ends = absurd ends
hold_ends words holds Usage ends = absurd ends
hold_ends words holds WriteFault ends = absurd ends
hold_ends words holds NotBuilt ends = absurd ends
