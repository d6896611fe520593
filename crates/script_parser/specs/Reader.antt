-- How far a file is read, and what may be said of its lines on the way.
use Rattle.std.specs.Prelude.{◌≡◌, ℕ, ◌+◌, ◌-◌, ◌<◌, ◌≤◌, IsTrue, List, Some, length, slice_get, take}
use Rattle.line_parser.specs.Blocks.{begins_block}
use Rattle.line_parser.specs.declared.fault.LineRule.{LineRule}
use Rattle.line_parser.specs.declared.fault.LineRule.TheVariants.{BadLine, TooDeep, BadBlock}
use Rattle.script_lexer.specs.declared.line.Line.{Line}
use Rattle.script_parser.specs.Faults.{DeepAt, blocks_in}
use Rattle.papy_base.specs.declared.faults.Fault.{Fault}
use Rattle.papy_base.specs.declared.faults.Fault.TheVariants.{Broken, OutOfMemory}
use Rattle.script_parser.specs.declared.fault.BrokenLine.{BrokenLine}
use Rattle.script_parser.specs.declared.reader.LineAt.{LineAt}
use Rattle.script_parser.specs.declared.reader.LineReader.{LineReader}

-- how many lines are still to be read
abbrev pub left : LineReader → ℕ
left reader = length reader.lines.now - reader.at

-- the same lines, read as far or further
pub record GoesOn (old new : LineReader) : Type 0 where
  pub lines : new.lines ≡ old.lines
  pub onward : old.at ≤ new.at

-- the line is that of its place
abbrev pub StandsAt : List Line → LineAt → Type 0
StandsAt lines found = slice_get lines found.at ≡ Some found.line.now

-- the line is one of those that were read
pub record Found (old new : LineReader) (found : LineAt) : Type 0 where
  pub stands : StandsAt old.lines.now found
  pub onward : old.at ≤ found.at
  pub behind : found.at < new.at

-- how many lines that begin with `If` or `While` were read
abbrev pub blocks_before : LineReader → ℕ
blocks_before reader = blocks_in (take reader.at reader.lines.now)

-- the line at this place begins with `If` or `While`, and with so many that may still be open in the present block the lines before it that do are at least 64
pub record BlockAt (lines : List Line) (at depth : ℕ) : Type 0 where
  pub line : Line
  pub found : slice_get lines at ≡ Some line
  pub begins : IsTrue (begins_block line.tokens.items)
  pub count : 64 ≤ blocks_in (take at lines) + depth

-- what is so where the line at this place breaks the rule
abbrev pub BreaksAt : List Line → ℕ → LineRule → Type 0
BreaksAt lines at TooDeep = (number : ℕ) × DeepAt lines at number
BreaksAt lines at BadLine = Unit {0}
BreaksAt lines at BadBlock = Unit {0}

abbrev pub IsBlockFault : List Line → Fault BrokenLine → Type 0
IsBlockFault lines (Broken line) = BreaksAt lines line.at line.rule
IsBlockFault lines OutOfMemory = Unit {0}
