-- How `journal` ends, and what it leaves.
use Rattle.std.proofs.Common.{ℕ, List, refl, inl, inr, map}
use Rattle.std.specs.Prelude.{Option, Ok, Err}
use Rattle.core_tree.specs.declared.scene_tree.SceneTree.{SceneTree}
use Rattle.papy_io.specs.declared.fault.IoFault.{IoFault}
use Rattle.papy_io.specs.declared.fault.IoFault.TheVariants as io
use Rattle.papy_io.specs.Files.{Files}
use Rattle.papy_io.specs.WriteFile.{WritesFile}
use Rattle.scene_binder.specs.Instances.{tree_name}
use Rattle.stack_machine.specs.declared.status.TurnFault.{TurnFault}
use Rattle.stack_machine.specs.declared.status.TurnFault.TheVariants as turn
use Rattle.command_files.specs.declared.ending.Ending.{Ending}
use Rattle.command_files.specs.declared.ending.Ending.TheVariants.{Done, OutOfMemory, Usage, ReadFault, WriteFault, Refused, NotBuilt}
use Rattle.command_files.specs.Ending.{CountsBoth, CountsWrites, write_ending}
use Rattle.run_commands.specs.Journal.{IsShort, JournalLeaves, NotesRun}
use Rattle.run_commands.specs.Play.{Plays, Starts, turns_ending}
use Rattle.run_commands.specs.Program.{EndsOnProgram}

-- ---- endings that aren't done

pub unstarted_short : (tree : SceneTree) (named : ℕ) (ending : Ending) → Starts tree named (Err ending) → IsShort ending
unstarted_short tree named (Refused word place rule) starts = tt
unstarted_short tree named OutOfMemory starts = tt
unstarted_short tree named Done starts = absurd starts
unstarted_short tree named Usage starts = absurd starts
unstarted_short tree named WriteFault starts = absurd starts
unstarted_short tree named NotBuilt starts = absurd starts
unstarted_short tree named (ReadFault word) starts = absurd starts

pub turns_short : (fault : TurnFault) → IsShort (turns_ending fault)
turns_short turn.WriteFault = tt
turns_short turn.OutOfMemory = tt

-- ---- counts

-- the output was written or not, and no file was begun
pub output_counts : (ending : Ending) (before now files : ℕ) → CountsWrites ending before now → CountsBoth ending before now files files
output_counts WriteFault before now files counts = inl (counts, refl)
output_counts Done before now files counts = (counts, refl)
output_counts OutOfMemory before now files counts = (counts, refl)
output_counts Usage before now files counts = (counts, refl)
output_counts (ReadFault word) before now files counts = (counts, refl)
output_counts (Refused word place rule) before now files counts = (counts, refl)
output_counts NotBuilt before now files counts = (counts, refl)

-- ---- what is left

pub early_journal : (number first : ℕ) (words : List (List ℕ)) (holds : Option Files) (file : List ℕ) (ending : Ending) (before now : Option (List ℕ)) → EndsOnProgram number first words holds ending → JournalLeaves file ending before now holds holds
early_journal number first words holds file (Refused word place rule) before now ends = refl
early_journal number first words holds file (ReadFault word) before now ends = refl
early_journal number first words holds file OutOfMemory before now ends = inl refl
early_journal number first words holds file Done before now ends = absurd ends
early_journal number first words holds file Usage before now ends = absurd ends
early_journal number first words holds file WriteFault before now ends = absurd ends
early_journal number first words holds file NotBuilt before now ends = absurd ends

pub short_journal : (tree : SceneTree) (named : ℕ) (file : List ℕ) (ending : Ending) (before now : Option (List ℕ)) (holds : Option Files) → Plays tree named ending before now → IsShort ending → JournalLeaves file ending before now holds holds
short_journal tree named file (Refused word place rule) before now holds plays short = refl
short_journal tree named file (ReadFault word) before now holds plays short = absurd plays
short_journal tree named file OutOfMemory before now holds plays short = inl refl
short_journal tree named file WriteFault before now holds plays short = inl refl
short_journal tree named file Done before now holds plays short = absurd short
short_journal tree named file Usage before now holds plays short = absurd plays
short_journal tree named file NotBuilt before now holds plays short = absurd plays

pub whole_journal : (tree : SceneTree) (file journal : List ℕ) (before now : Option (List ℕ)) (old new : Option Files) → NotesRun tree journal before now → WritesFile {T = Unit {0}} file journal (Ok tt) old new → JournalLeaves file Done before now old new
whole_journal tree file journal before now old new noted wrote =
    record {
      turns = noted.writes.report.turns;
      names = map tree_name tree.instances.items;
      report = noted.writes.text;
      journal = journal;
      report_is = noted.writes.report.report;
      appended = noted.writes.appended;
      journal_is = noted.journal_is;
      held = wrote;
    }

pub cut_journal : (tree : SceneTree) (file journal : List ℕ) (fault : IoFault) (before now : Option (List ℕ)) (old new : Option Files) → NotesRun tree journal before now → WritesFile {T = Unit {0}} file journal (Err fault) old new → JournalLeaves file (write_ending fault) before now old new
cut_journal tree file journal io.Failed before now old new noted wrote = inr (map tree_name tree.instances.items, noted.writes.report.turns, journal, noted.journal_is, wrote)
cut_journal tree file journal io.OutOfMemory before now old new noted wrote = inr (map tree_name tree.instances.items, noted.writes.report.turns, journal, noted.journal_is, wrote)

-- ---- a run that was noted

pub noted_plays : (tree : SceneTree) (named : ℕ) (journal : List ℕ) (before now : Option (List ℕ)) → NotesRun tree journal before now → Plays tree named Done before now
noted_plays tree named journal before now noted = noted.writes
