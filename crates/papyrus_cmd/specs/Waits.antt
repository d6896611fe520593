-- What `waits` answers to a journal.
use Rattle.std.specs.Prelude.{◌≡◌, ℕ, suc, ◌<◌, List, [], ◌∷◌, ◌++◌, length, map, slice_index, Option, None, Some, Result, Ok, Err}
use Rattle.std.specs.Fmt.{decimal}
use Rattle.std.specs.List.{flat_map}
use Rattle.papy_io.specs.Files.{Files, told_bytes}
use Rattle.run_replay.specs.Book.{IsLegal, JournalBreak}
use Rattle.run_replay.specs.Discipline.{OneHolder, InOrder, LetsGo}
use Rattle.run_replay.specs.Lines.{JournalLine}
use Rattle.run_replay.specs.Outline.{AreLines, turns_in, names_in}
use Rattle.run_replay.specs.Waiting.{waited}
use Rattle.run_replay.specs.declared.fault.JournalRule.{JournalRule}
use Rattle.run_replay.specs.declared.waits.Waits.{Waits}
use Rattle.command_files.specs.declared.file_fault.FileFault.{FileFault}
use Rattle.command_files.specs.declared.file_fault.FileFault.TheVariants.{ReadFault, OutOfMemory, Refused}
use Rattle.command_files.specs.declared.refusal.Place.{Place}
use Rattle.command_files.specs.declared.refusal.Place.TheVariants.{Line}
use Rattle.command_files.specs.declared.refusal.Rule.{Rule}
use Rattle.command_files.specs.declared.refusal.Rule.TheVariants.{Journal}
use Rattle.papyrus_cmd.specs.Check.{accepted_line}

-- an instance's name, and for how many turns stacks waited for it
abbrev pub count_line : List ℕ → ℕ → List ℕ
count_line name turns = name ++ (32 ∷ (decimal turns ++ 10 ∷ []))

-- the lines of these instances, the first of which has this number
abbrev pub count_lines : List JournalLine → ℕ → List (List ℕ) → List ℕ
count_lines lines number [] = []
count_lines lines number (name ∷ names) = count_line name (waited lines number) ++ count_lines lines (suc number) names

-- what is told of the lines of a journal: how many turns there are, and how long stacks waited for each instance
abbrev pub waits_text : List JournalLine → List ℕ
waits_text lines = accepted_line (turns_in lines) ++ count_lines lines 0 (names_in lines)

-- the journal is legal and keeps the rules of locks, and the text tells what its lines count
pub record PassesWith (journal text : List ℕ) : Type 0 where
  pub legal : IsLegal journal
  pub told : (lines : List JournalLine) → AreLines journal lines → text ≡ waits_text lines
  pub one_holder : (lines : List JournalLine) → AreLines journal lines → OneHolder lines
  pub in_order : (lines : List JournalLine) → AreLines journal lines → InOrder lines
  pub lets_go : (lines : List JournalLine) → AreLines journal lines → LetsGo lines

-- the journal isn't legal, and this is the first line that breaks a rule, and the rule
pub record RefusesJournal (journal : List ℕ) (place : Place) (rule : Rule) : Type 0 where
  pub line : ℕ
  pub broken : JournalRule
  pub place_is : place ≡ Line line
  pub rule_is : rule ≡ Journal broken
  pub break : JournalBreak journal line broken
  pub refused : IsLegal journal → ⊥

-- the journal is legal and keeps the rules of locks, and this is what its lines count
pub record Counts (journal : List ℕ) (waits : Waits) : Type 0 where
  pub legal : IsLegal journal
  pub turns : (lines : List JournalLine) → AreLines journal lines → waits.turns ≡ turns_in lines
  pub names : (lines : List JournalLine) → AreLines journal lines → map (λ p. p.0) waits.instances.items ≡ names_in lines
  pub counts : (lines : List JournalLine) → AreLines journal lines → (i : ℕ) → i < length (names_in lines) → slice_index (map (λ p. p.1) waits.instances.items) i ≡ waited lines i
  pub one_holder : (lines : List JournalLine) → AreLines journal lines → OneHolder lines
  pub in_order : (lines : List JournalLine) → AreLines journal lines → InOrder lines
  pub lets_go : (lines : List JournalLine) → AreLines journal lines → LetsGo lines

-- a journal, counted or refused
abbrev pub Checks : List ℕ → Result Waits FileFault → Type 0
Checks journal (Ok waits) = Counts journal waits
Checks journal (Err (Refused place rule)) = RefusesJournal journal place rule
Checks journal (Err OutOfMemory) = Unit {0}
Checks journal (Err ReadFault) = ⊥

-- what reading the journal of this name gives
abbrev pub ReadsWaits : Option Files → List ℕ → Result Waits FileFault → Type 0
ReadsWaits None name result = Unit {0}
ReadsWaits (Some files) name (Ok waits) = (journal : List ℕ) × (told_bytes (Some files) name ≡ Some journal) × Counts journal waits
ReadsWaits (Some files) name (Err (Refused place rule)) = (journal : List ℕ) × (told_bytes (Some files) name ≡ Some journal) × RefusesJournal journal place rule
ReadsWaits (Some files) name (Err ReadFault) = Unit {0}
ReadsWaits (Some files) name (Err OutOfMemory) = Unit {0}

-- the lines of instances that were counted
abbrev pub counted_line : List ℕ × ℕ → List ℕ
counted_line p = count_line p.0 p.1

abbrev pub counted_text : Waits → List ℕ
counted_text waits = accepted_line waits.turns ++ flat_map counted_line waits.instances.items
