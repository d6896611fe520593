-- What was read of a text so far.
use Rattle.std.specs.Prelude.{◌≡◌, ℕ, ◌+◌, ◌<◌, ◌≤◌, List, [], ◌∷◌, ◌++◌, length}
use Rattle.script_lexer.specs.declared.line.Line.{Line}
use Rattle.script_lexer.specs.declared.piece.Piece.{Piece}
use Rattle.script_lexer.specs.declared.line.Progress.{Progress}
use Rattle.script_lexer.specs.Bytes.{line_ends}
use Rattle.script_lexer.specs.Lines.{LogicalLine, logical_lines, nonempty, Spelled, following}

-- the lines of what was read so far and of these pieces behind it
abbrev pub lines_with : Progress → List Spelled → List LogicalLine
lines_with p pieces =
    logical_lines p.lines.items ++ nonempty p.begun (p.tokens.items ++ (following p.at p.line pieces).tokens) (following p.at p.line pieces).lines

-- nothing was read
pub record IsStart (p : Progress) (at : ℕ) : Type 0 where
  pub place : p.at ≡ at
  pub line : p.line ≡ 1
  pub begun : p.begun ≡ 1
  pub tokens : p.tokens.items ≡ []
  pub lines : p.lines.items ≡ []

-- the current line's number fits its type where it has tokens
pub record IsReady (p : Progress) : Type 0 where
  pub begun : p.begun ≤ p.line
  pub fits : 0 < length p.tokens.items → p.begun ≤ 65535

-- one piece was taken, and whatever follows makes the same lines
pub record Takes (old new : Progress) (piece : Piece) (bytes : List ℕ) : Type 0 where
  pub at : new.at ≡ old.at + length bytes
  pub line : new.line ≡ old.line + line_ends bytes
  pub ready : IsReady new
  pub built : (pieces : List Spelled) → lines_with new pieces ≡ lines_with old (record { piece = piece; bytes = bytes } ∷ pieces)

-- the lines are those of what was read
abbrev pub closed : List Line → Progress → Type 0
closed lines p = logical_lines lines ≡ lines_with p []
