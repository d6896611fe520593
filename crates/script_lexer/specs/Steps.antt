-- One step of the lexer, and all of them.
use Rattle.std.specs.Prelude.{◌≡◌, ℕ, ◌+◌, ◌-◌, ◌<◌, ◌≤◌, List, ◌++◌, length, take, drop, ◌⊎◌, Result, Ok, Err, ⊤}
use Rattle.std.specs.Borrow.{Bor}
use Rattle.script_lexer.specs.declared.piece.Piece.{Piece}
use Rattle.papy_base.specs.declared.faults.Fault.{Fault}
use Rattle.papy_base.specs.declared.faults.Fault.TheVariants as piece_fault
use Rattle.script_lexer.specs.declared.line.Lines.{Lines}
use Rattle.script_lexer.specs.declared.line.Progress.{Progress}
use Rattle.script_lexer.specs.declared.fault.LexRule.{LexRule}
use Rattle.script_lexer.specs.declared.fault.LexRule.TheVariants as rule
use Rattle.script_lexer.specs.declared.fault.LexFault.{LexFault}
use Rattle.script_lexer.specs.declared.fault.LexFault.TheVariants as fault
use Rattle.std.specs.List.{prefix_len}
use Rattle.script_lexer.specs.Bytes.{is_blank, line_ends}
use Rattle.script_lexer.specs.Pieces.{IsLongest}
use Rattle.script_lexer.specs.Rules.{Breaks}
use Rattle.script_lexer.specs.Lines.{logical_lines, LexesFrom, IsUnbroken, FirstBreak, LexBreak}
use Rattle.script_lexer.specs.Answers.{IsLowest}
use Rattle.script_lexer.specs.Progress.{Takes}

-- the fault at a physical line
abbrev pub at_line : Fault LexRule → ℕ → LexFault
at_line (piece_fault.Broken r) line = fault.Broken line r
at_line piece_fault.OutOfMemory line = fault.OutOfMemory

-- how many line ends stand before the last byte
abbrev pub ends_before_last : List ℕ → ℕ
ends_before_last bytes = line_ends (take (length bytes - 1) bytes)

-- the piece that stands here, where no rule is broken
pub record StandsHere (rest after bytes : List ℕ) (piece : Piece) : Type 0 where
  pub split : rest ≡ bytes ++ after
  pub longest : IsLongest bytes after piece
  pub unbroken : (r : LexRule) → Breaks r rest → ⊥

-- a piece was taken, and its last byte stands on a line within the limit
pub record Steps (old new : Progress) (rest after : List ℕ) : Type 0 where
  pub piece : Piece
  pub bytes : List ℕ
  pub here : StandsHere rest after bytes piece
  pub few : old.line + ends_before_last bytes ≤ 65535
  pub takes : Takes old new piece bytes

-- the line ends of a piece that begins on this line and whose last byte stands within the limit
pub record CountsWithin (line : ℕ) (bytes : List ℕ) (ends : ℕ) : Type 0 where
  pub few : line + ends_before_last bytes ≤ 65535
  pub counted : ends ≡ line_ends bytes
  pub most : line + ends ≤ 65536

-- Some blanks were passed, none of them past the last line, and nothing but the place is another.
pub record PassesBlanks (old new : Progress) (rest after : List ℕ) : Type 0 where
  pub count : ℕ
  pub blank : count ≤ prefix_len is_blank rest
  pub within : 0 < count → old.line ≤ 65535
  pub behind : after ≡ drop count rest
  pub at : new.at ≡ old.at + count
  pub line : new.line ≡ old.line
  pub begun : new.begun ≡ old.begun
  pub tokens : new.tokens ≡ old.tokens
  pub lines : new.lines ≡ old.lines

-- a piece stands here, and its last byte stands past the last line
pub record Exceeds (line : ℕ) (rest : List ℕ) : Type 0 where
  pub piece : Piece
  pub bytes : List ℕ
  pub after : List ℕ
  pub here : StandsHere rest after bytes piece
  pub many : 65535 < line + ends_before_last bytes

abbrev pub StepFault : ℕ → List ℕ → LexFault → Type 0
StepFault here rest (fault.Broken line r) =
    ((line ≡ here) × IsLowest rest r) ⊎ ((line ≡ 65536) × (r ≡ rule.TooLarge) × Exceeds here rest)
StepFault here rest fault.OutOfMemory = ⊤

abbrev pub StepAnswer : Progress → Progress → List ℕ → Result (Bor (List ℕ)) LexFault → Type 0
StepAnswer old new rest (Ok after) = Steps old new rest after.now
StepAnswer old new rest (Err f) = StepFault old.line rest f

-- what the text's lexer answers
abbrev pub TextFault : List ℕ → LexFault → Type 0
TextFault text (fault.Broken line r) = FirstBreak text line r
TextFault text fault.OutOfMemory = ⊤

abbrev pub TextAnswer : ℕ → List ℕ → Result Lines LexFault → Type 0
TextAnswer start text (Ok lines) = IsUnbroken text × LexesFrom start text (logical_lines lines.lines.items) lines.last
TextAnswer start text (Err f) = TextFault text f

-- what the file's lexer answers
abbrev pub FileFault : List ℕ → LexFault → Type 0
FileFault file (fault.Broken line r) = LexBreak file line r
FileFault file fault.OutOfMemory = ⊤
