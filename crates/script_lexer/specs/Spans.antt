-- Where tokens stand in a file.
use Rattle.std.specs.Prelude.{ℕ, suc, ◌<◌, ◌≤◌, List, [], ◌∷◌, length, slice_range}
use Rattle.script_lexer.specs.declared.token.Spanned.{Spanned}
use Rattle.script_lexer.specs.declared.piece.Piece.TheVariants as piece
use Rattle.script_lexer.specs.Pieces.{Spells}
use Rattle.script_lexer.specs.Lines.{LogicalLine}

-- Each token is spelled by its bytes of the file and stands behind the one before; `next` holds of the last one's end.
abbrev pub TokensStand : List ℕ → ℕ → List Spanned → (ℕ → Type 0) → Type 0
TokensStand file at [] next = next at
TokensStand file at (t ∷ tokens) next =
    (at ≤ t.from) × (t.from < t.until) × (t.until ≤ length file) × Spells (slice_range file t.from t.until) (piece.Token t.token) × TokensStand file t.until tokens next

-- The lines stand one behind the other from this place on, and their numbers rise from this number on.
abbrev pub LinesStand : List ℕ → ℕ → ℕ → List LogicalLine → Type 0
LinesStand file at number [] = Unit {0}
LinesStand file at number (l ∷ lines) = (number ≤ l.number) × TokensStand file at l.tokens (λ end. LinesStand file end (suc l.number) lines)
