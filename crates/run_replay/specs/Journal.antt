-- What the readers of a journal answer.
use Rattle.std.specs.Prelude.{ℕ, ◌≡◌, List, ◌++◌, Result, Ok, Err, true, ⊤}
use Rattle.std.specs.Borrow.{Bor}
use Rattle.run_replay.specs.declared.book.Stage.TheVariants as stages
use Rattle.run_replay.specs.declared.fault.JournalFault.{JournalFault}
use Rattle.run_replay.specs.declared.fault.JournalFault.TheVariants as faults
use Rattle.run_replay.specs.Lines.{JournalLine, LineFits, ended_line, journal_text}
use Rattle.run_replay.specs.Book.{Standing, start, may_stand, is_allowed, after, Leave, BreaksHere, FirstBreak, JournalBreak, IsLegal}

-- the next line is allowed, and was passed
pub record Passes (old new : Standing) (rest behind : List ℕ) : Type 0 where
  pub line : JournalLine
  pub fits : LineFits line
  pub split : rest ≡ ended_line line ++ behind
  pub stands : may_stand old line ≡ true
  pub allowed : is_allowed old line ≡ true
  pub now : new ≡ after old line

abbrev pub StepFault : Standing → ℕ → List ℕ → JournalFault → Type 0
StepFault old number rest (faults.Broken line rule) = (line ≡ number) × BreaksHere old rest rule
StepFault old number rest faults.OutOfMemory = ⊤

abbrev pub StepAnswer : Standing → Standing → ℕ → List ℕ → Result (Bor (List ℕ)) JournalFault → Type 0
StepAnswer old new number rest (Ok behind) = Passes old new rest behind.now
StepAnswer old new number rest (Err fault) = StepFault old number rest fault

-- the bytes are a whole journal, which leaves this
pub record IsWhole (bytes : List ℕ) (end : Standing) : Type 0 where
  pub lines : List JournalLine
  pub text : bytes ≡ journal_text lines
  pub leave : Leave start lines end
  pub ended : end.stage ≡ stages.Ended

abbrev pub FaultIs : List ℕ → JournalFault → Type 0
FaultIs bytes (faults.Broken line rule) = FirstBreak bytes line rule
FaultIs bytes faults.OutOfMemory = ⊤

abbrev pub ReadAnswer : Standing → List ℕ → Result (Unit {0}) JournalFault → Type 0
ReadAnswer end bytes (Ok done) = IsWhole bytes end
ReadAnswer end bytes (Err fault) = FaultIs bytes fault

abbrev pub JournalFaultIs : List ℕ → JournalFault → Type 0
JournalFaultIs bytes (faults.Broken line rule) = JournalBreak bytes line rule
JournalFaultIs bytes faults.OutOfMemory = ⊤

-- A fault of a rule comes only where the journal isn't legal.
abbrev pub IsRefused : List ℕ → JournalFault → Type 0
IsRefused bytes (faults.Broken line rule) = IsLegal bytes → ⊥
IsRefused bytes faults.OutOfMemory = ⊤
