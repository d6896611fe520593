-- A reading of a script, its logical lines, and its first broken rule.
use Rattle.std.specs.Prelude.{◌≡◌, ℕ, ◌+◌, ◌<◌, ◌≤◌, List, [], ◌∷◌, ◌++◌, length, take, drop, map, ◌⊎◌, ◌==◌, ◌&&◌, if◌then◌else◌}
use Rattle.script_lexer.specs.declared.token.Spanned.{Spanned}
use Rattle.script_lexer.specs.declared.line.Line.{Line}
use Rattle.script_lexer.specs.declared.piece.Piece.{Piece}
use Rattle.script_lexer.specs.declared.piece.Piece.TheVariants as piece
use Rattle.script_lexer.specs.declared.fault.LexRule.{LexRule}
use Rattle.script_lexer.specs.declared.fault.LexRule.TheVariants as rule
use Rattle.script_lexer.specs.Bytes.{line_ends}
use Rattle.script_lexer.specs.Pieces.{IsLongest}
use Rattle.script_lexer.specs.Rules.{rule_number, Breaks}

-- ---- readings

-- a piece and its bytes
pub record Spelled : Type 0 where
  pub piece : Piece
  pub bytes : List ℕ

-- The text begins with these pieces, each the longest at its place, and the rest follows them.
abbrev pub Reads : List ℕ → List Spelled → List ℕ → Type 0
Reads text [] rest = text ≡ rest
Reads text (s ∷ pieces) rest = (after : List ℕ) × (text ≡ s.bytes ++ after) × IsLongest s.bytes after s.piece × Reads after pieces rest

-- ---- logical lines

-- a logical line without where it lies in memory
pub record LogicalLine : Type 0 where
  pub number : ℕ
  pub tokens : List Spanned

abbrev pub logical_line : Line → LogicalLine
logical_line line = record { number = line.number; tokens = line.tokens.items }

abbrev pub logical_lines : List Line → List LogicalLine
logical_lines lines = map logical_line lines

-- what follows a place: the tokens up to the end of its logical line, and the lines after it
pub record Following : Type 0 where
  pub tokens : List Spanned
  pub lines : List LogicalLine

-- a logical line counts only where it has tokens
abbrev pub nonempty : ℕ → List Spanned → List LogicalLine → List LogicalLine
nonempty number [] lines = lines
nonempty number (t ∷ tokens) lines = record { number = number; tokens = t ∷ tokens } ∷ lines

-- a piece that stands from here to there, where the physical line of that number goes on behind it
abbrev pub with_piece : Piece → ℕ → ℕ → ℕ → Following → Following
with_piece piece.LineEnd from until line next = record { tokens = []; lines = nonempty line next.tokens next.lines }
with_piece (piece.Token t) from until line next =
    record { tokens = record { token = t; from = from; until = until } ∷ next.tokens; lines = next.lines }
with_piece piece.Blank from until line next = next
with_piece piece.Join from until line next = next
with_piece piece.Comment from until line next = next

-- what these pieces make, the first of which stands at this place and on this physical line
abbrev pub following : ℕ → ℕ → List Spelled → Following
following at line [] = record { tokens = []; lines = [] }
following at line (s ∷ pieces) =
    with_piece s.piece at (at + length s.bytes) (line + line_ends s.bytes) (following (at + length s.bytes) (line + line_ends s.bytes) pieces)

-- the logical lines of a text that begins at this place of the file
abbrev pub lines_of : ℕ → List Spelled → List LogicalLine
lines_of at pieces = nonempty 1 (following at 1 pieces).tokens (following at 1 pieces).lines

-- ---- files

-- how many bytes the mark EF BB BF takes at the file's start
abbrev pub mark_len : List ℕ → ℕ
mark_len [] = 0
mark_len (a ∷ []) = 0
mark_len (a ∷ b ∷ []) = 0
mark_len (a ∷ b ∷ c ∷ bytes) = if (a == 0xEF) && ((b == 0xBB) && (c == 0xBF)) then 3 else 0

-- the file behind the mark
abbrev pub text_of : List ℕ → List ℕ
text_of bytes = drop (mark_len bytes) bytes

-- the number of physical lines: those that end, and one more that has bytes and no end
abbrev pub physical_lines : List ℕ → ℕ
physical_lines [] = 0
physical_lines (b ∷ []) = 1
physical_lines (b ∷ c ∷ bytes) = (if b == 10 then 1 else 0) + physical_lines (c ∷ bytes)

-- the text, which begins at this place of its file, has a reading to its end, and these are its logical lines and the number of its physical lines
pub record LexesFrom (at : ℕ) (text : List ℕ) (lines : List LogicalLine) (last : ℕ) : Type 0 where
  pub reading : List Spelled
  pub whole : Reads text reading []
  pub as_lines : lines ≡ lines_of at reading
  pub as_last : last ≡ physical_lines text

abbrev pub Lexes : List ℕ → List LogicalLine → ℕ → Type 0
Lexes file lines last = LexesFrom (mark_len file) (text_of file) lines last

-- ---- broken rules

-- Whole pieces lead up to the place, and the rule is broken there.
pub record BreaksAt (text : List ℕ) (place : ℕ) (r : LexRule) : Type 0 where
  pub reading : List Spelled
  pub whole : Reads text reading (drop place text)
  pub broken : Breaks r (drop place text)

-- a byte stands behind 65,535 line ends
pub record IsPastLastLine (text : List ℕ) (place : ℕ) : Type 0 where
  pub within : place < length text
  pub behind : 65535 ≤ line_ends (take place text)

abbrev pub IsBroken : List ℕ → ℕ → LexRule → Type 0
IsBroken text place r = BreaksAt text place r ⊎ ((r ≡ rule.TooLarge) × IsPastLastLine text place)

-- the least place at which a rule is broken, and the lowest rule that is broken there
pub record IsFirstBroken (text : List ℕ) (place : ℕ) (r : LexRule) : Type 0 where
  pub broken : IsBroken text place r
  pub least : (other : ℕ) (q : LexRule) → IsBroken text other q → place ≤ other
  pub lowest : (q : LexRule) → IsBroken text place q → rule_number r ≤ rule_number q

-- no rule is broken anywhere
abbrev pub IsUnbroken : List ℕ → Type 0
IsUnbroken text = (place : ℕ) (r : LexRule) → IsBroken text place r → ⊥

-- the first broken rule of a text, with the physical line of its place
abbrev pub FirstBreak : List ℕ → ℕ → LexRule → Type 0
FirstBreak text line r = (place : ℕ) × IsFirstBroken text place r × (line ≡ 1 + line_ends (take place text))

-- A file of more than 1 MiB breaks the last rule at line 0, before all others.
abbrev pub LexBreak : List ℕ → ℕ → LexRule → Type 0
LexBreak file line r =
    ((1048576 < length file) × (line ≡ 0) × (r ≡ rule.TooLarge))
    ⊎ ((length file ≤ 1048576) × FirstBreak (text_of file) line r)

-- what the lexer answers, but for memory
pub data Answer : Type 0 where
  Cut : (lines : List LogicalLine) (last : ℕ) → Answer
  Refused : (line : ℕ) (r : LexRule) → Answer

-- the one answer for a file
abbrev pub IsAnswer : List ℕ → Answer → Type 0
IsAnswer file (Cut lines last) = (length file ≤ 1048576) × IsUnbroken (text_of file) × Lexes file lines last
IsAnswer file (Refused line r) = LexBreak file line r
