-- What `journal` writes.
use Rattle.std.specs.Prelude.{◌≡◌, ◌⊎◌, ℕ, suc, ◌+◌, List, [], ◌∷◌, ◌++◌, length, map, Option, Result, Ok, Err}
use Rattle.std.specs.declared.alloc.Global.{Global}
use Rattle.std.specs.declared.vec.Vec.{Vec}
use Rattle.core_tree.specs.declared.scene_tree.SceneTree.{SceneTree}
use Rattle.papy_io.specs.Files.{Files, ChangesTold}
use Rattle.papy_io.specs.Sink.{Appended}
use Rattle.papy_io.specs.WriteFile.{HoldsNow, MayHold}
use Rattle.run_replay.specs.Lines.{JournalLine, Heading, Instance, Turn, End, Moved, journal_text}
use Rattle.run_replay.specs.declared.lock_move.LockMove.{LockMove}
use Rattle.scene_binder.specs.Instances.{tree_name}
use Rattle.scene_runner.specs.Report.{IsReport}
use Rattle.command_files.specs.declared.ending.Ending.{Ending}
use Rattle.command_files.specs.declared.ending.Ending.TheVariants.{Done, OutOfMemory, Usage, ReadFault, WriteFault, Refused, NotBuilt}
use Rattle.command_files.specs.Ending.{CountsWrites}
use Rattle.run_commands.specs.Play.{Plays}
use Rattle.run_commands.specs.Report.{WritesReport}

-- the lines of some turns, each with its moves, of which the first has this number
abbrev pub turn_lines : ℕ → List (List LockMove) → List JournalLine
turn_lines turn [] = []
turn_lines turn (moves ∷ rest) = (Turn turn ∷ map Moved moves) ++ turn_lines (suc turn) rest

-- the text of the turns from one number up to another was appended
pub record NotesTurns (from to : ℕ) (before now : List ℕ) : Type 0 where
  pub moves : List (List LockMove)
  pub count : to ≡ from + length moves
  pub now_is : now ≡ before ++ journal_text (turn_lines from moves)

-- the journal of a run of so many turns of a scene with these instances: it names them, and has each turn with its moves
pub record IsJournalOf (names : List (List ℕ)) (turns : ℕ) (journal : List ℕ) : Type 0 where
  pub moves : List (List LockMove)
  pub count : length moves ≡ turns
  pub text_is : journal ≡ journal_text (Heading ∷ map Instance names) ++ (journal_text (turn_lines 0 moves) ++ journal_text (End turns ∷ []))

-- the report of a run of a scene was written, and the journal has as many turns
pub record NotesRun (tree : SceneTree) (journal : List ℕ) (before now : Option (List ℕ)) : Type 0 where
  pub writes : WritesReport tree before now
  pub journal_is : IsJournalOf (map tree_name tree.instances.items) writes.report.turns journal

-- the command didn't do what it is for
abbrev pub IsShort : Ending → Type 0
IsShort Done = ⊥
IsShort _ = Unit {0}

-- a scene that the word of this number names was run and its report was written, with its journal, or the command ends so
abbrev pub PlaysNoted : SceneTree → ℕ → Result (Vec ℕ Global) Ending → Option (List ℕ) → Option (List ℕ) → Type 0
PlaysNoted tree named (Ok journal) before now = NotesRun tree journal.items before now
PlaysNoted tree named (Err ending) before now = Plays tree named ending before now × IsShort ending

-- the count of failed writes rises where the output was not written, and nowhere else
abbrev pub CountsNoted : {T : Type 0} → Result T Ending → ℕ → ℕ → Type 0
CountsNoted (Ok _) before now = now ≡ before
CountsNoted (Err ending) before now = CountsWrites ending before now

-- ---- the file

-- the report that was written and the file tell the same turns
pub record HoldsNoted (file : List ℕ) (before now : Option (List ℕ)) (old new : Option Files) : Type 0 where
  pub turns : ℕ
  pub names : List (List ℕ)
  pub report : List ℕ
  pub journal : List ℕ
  pub report_is : IsReport turns report
  pub appended : Appended report before now
  pub journal_is : IsJournalOf names turns journal
  pub held : ChangesTold file (HoldsNow journal) old new

-- the same where the file may hold the first part of the journal, or what it held, or nothing
abbrev pub MayHoldNoted : List ℕ → Option Files → Option Files → Type 0
MayHoldNoted file old new =
    (new ≡ old) ⊎ ((names : List (List ℕ)) × (turns : ℕ) × (journal : List ℕ) × IsJournalOf names turns journal × ChangesTold file (MayHold journal) old new)

-- what the files are by the way that `journal` ended, and what it has written
abbrev pub JournalLeaves : List ℕ → Ending → Option (List ℕ) → Option (List ℕ) → Option Files → Option Files → Type 0
JournalLeaves file Done before now old new = HoldsNoted file before now old new
JournalLeaves file WriteFault before now old new = MayHoldNoted file old new
JournalLeaves file OutOfMemory before now old new = MayHoldNoted file old new
JournalLeaves file (ReadFault word) before now old new = new ≡ old
JournalLeaves file (Refused word place rule) before now old new = new ≡ old
JournalLeaves file Usage before now old new = ⊥
JournalLeaves file NotBuilt before now old new = ⊥
