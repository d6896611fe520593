-- Where a fault may stand, and what has to be so where a line is too deep.
use Rattle.std.specs.Prelude.{◌≡◌, ℕ, ◌+◌, ◌≤◌, ◌⊎◌, IsTrue, List, Contains, Some, count_by, map, slice_get, take}
use Rattle.line_parser.specs.Blocks.{begins_block}
use Rattle.line_parser.specs.Nesting.{IsTooDeep}
use Rattle.line_parser.specs.declared.fault.LineRule.{LineRule}
use Rattle.line_parser.specs.declared.fault.LineRule.TheVariants.{BadLine, TooDeep, BadBlock}
use Rattle.script_lexer.specs.declared.line.Line.{Line}
use Rattle.script_lexer.specs.declared.line.Lines.{Lines}
use Rattle.script_parser.specs.declared.fault.ParseFault.{ParseFault}
use Rattle.script_parser.specs.declared.fault.ParseFault.TheVariants.{Broken, OutOfMemory}

-- the physical lines on which logical lines begin
abbrev pub numbers_of : List Line → List ℕ
numbers_of lines = map (λ l. l.number) lines

abbrev pub IsNumberOf : List Line → ℕ → Type 0
IsNumberOf lines number = Contains (numbers_of lines) number

-- the physical line on which a logical line begins, or the one after the last
abbrev pub IsLineOf : Lines → ℕ → Type 0
IsLineOf lines line = IsNumberOf lines.lines.items line ⊎ (line ≡ lines.last + 1)

-- how many lines begin with `If` or `While`
abbrev pub blocks_in : List Line → ℕ
blocks_in lines = count_by (λ l. begins_block l.tokens.items) lines

-- the line begins with `If` or `While`, and so do at least 64 before it
abbrev pub NestsTooDeep : List Line → ℕ → Line → Type 0
NestsTooDeep lines at line = IsTrue (begins_block line.tokens.items) × (64 ≤ blocks_in (take at lines))

-- the logical line at this place is too deep, by itself or by where it stands
pub record DeepAt (lines : List Line) (at : ℕ) (number : ℕ) : Type 0 where
  pub line : Line
  pub found : slice_get lines at ≡ Some line
  pub number_is : line.number ≡ number
  pub deep : IsTooDeep line.tokens.items ⊎ NestsTooDeep lines at line

-- what is so where a line of this number breaks the rule
abbrev pub BreaksRule : List Line → ℕ → LineRule → Type 0
BreaksRule lines number TooDeep = (at : ℕ) × DeepAt lines at number
BreaksRule lines number BadLine = Unit {0}
BreaksRule lines number BadBlock = Unit {0}

abbrev pub IsFaultOf : Lines → ParseFault → Type 0
IsFaultOf lines (Broken line rule) = IsLineOf lines line × BreaksRule lines.lines.items line rule
IsFaultOf lines OutOfMemory = Unit {0}
