-- The tokens of a reading stand where their bytes stand.
use Rattle.std.proofs.Common.{◌≡◌, ℕ, suc, ◌+◌, ◌-◌, ◌<◌, ◌≤◌, Bool, true, false, cond, List, [], ◌∷◌, ◌++◌, length, take, drop, Result, Ok, Err, refl, sym, ap, subst, ◌∙◌, append_assoc, arith}
use Rattle.std.specs.Prelude.{◌==◌, IfOk, slice_range}
use Rattle.std.proofs.lemmas.Bool.{eqb-true}
use Rattle.std.proofs.lemmas.List.{length-append, take_at, drop_at, take-append-drop, length-take-le}
use Rattle.script_lexer.specs.declared.opening.Opening.{Opening}
use Rattle.script_lexer.specs.declared.opening.Opening.TheVariants as opening
use Rattle.script_lexer.specs.declared.token.Spanned.{Spanned}
use Rattle.script_lexer.specs.declared.piece.Piece.{Piece}
use Rattle.script_lexer.specs.declared.piece.Piece.TheVariants as piece
use Rattle.script_lexer.specs.declared.line.Lines.{Lines}
use Rattle.script_lexer.specs.declared.fault.LexFault.{LexFault}
use Rattle.script_lexer.specs.Bytes.{opening_of, line_ends, is_blank, is_word_start, is_sign_start}
use Rattle.std.specs.Char.{is_ascii_digit}
use Rattle.script_lexer.specs.Pieces.{Completes, Spells}
use Rattle.script_lexer.specs.Lines.{Spelled, Reads, LogicalLine, logical_lines, nonempty, Following, with_piece, following, mark_len, text_of, LexesFrom, Lexes}
use Rattle.script_lexer.specs.Spans.{TokensStand, LinesStand}
use Rattle.script_lexer.specs.Steps.{TextAnswer}
use Rattle.script_lexer.proofs.ReadingLemmas.{longest_some}

-- ---- a line end is one

by_tests : (s t u v w x y z q : Bool) → cond s opening.Blank (cond t opening.LineEnd (cond u opening.Join (cond v opening.Comment (cond w opening.Documentation (cond x opening.Quote (cond y opening.Number (cond z opening.Word (cond q opening.Sign opening.Nothing)))))))) ≡ opening.LineEnd → t ≡ true
by_tests true t u v w x y z q e = absurd cc
by_tests false true u v w x y z q e = refl
by_tests false false true v w x y z q e = absurd cc
by_tests false false false true w x y z q e = absurd cc
by_tests false false false false true x y z q e = absurd cc
by_tests false false false false false true y z q e = absurd cc
by_tests false false false false false false true z q e = absurd cc
by_tests false false false false false false false true q e = absurd cc
by_tests false false false false false false false false true e = absurd cc
by_tests false false false false false false false false false e = absurd cc

line_end_is : (b : ℕ) → opening_of b ≡ opening.LineEnd → b ≡ 10
unfolding opening_of
line_end_is b e = eqb-true b 10 (by_tests (is_blank b) (b == 10) (b == 92) (b == 59) (b == 123) (b == 34) (is_ascii_digit b) (is_word_start b) (is_sign_start b) e)

-- only a line end spells one
completes_line_end : (o : Opening) (b : ℕ) (bytes : List ℕ) → Completes o b bytes piece.LineEnd → (o ≡ opening.LineEnd) × (bytes ≡ [])
completes_line_end opening.Blank b bytes h = absurd (let no = h.1 in cc)
completes_line_end opening.LineEnd b bytes h = (refl, h.0)
completes_line_end opening.Join b bytes h = absurd (let no = h.1 in cc)
completes_line_end opening.Comment b bytes h = absurd (let no = h.1 in cc)
completes_line_end opening.Documentation b bytes h = absurd (let no = h.1 in cc)
completes_line_end opening.Quote b bytes h = absurd (let no = h.4 in cc)
completes_line_end opening.Number b bytes h = absurd (let no = h.1 in cc)
completes_line_end opening.Word b bytes h = absurd (let no = h.1.2 in cc)
completes_line_end opening.Sign b bytes h = absurd (let no = h.2 in cc)
completes_line_end opening.Nothing b bytes h = absurd h

one_line_end : (bytes : List ℕ) → Spells bytes piece.LineEnd → line_ends bytes ≡ 1
one_line_end [] h = absurd h
one_line_end (b ∷ bytes) h =
    let p = completes_line_end (opening_of b) b bytes h in
    let is_ten = line_end_is b p.0 in
    ap line_ends (ap (λ (t : List ℕ). b ∷ t) p.1 ∙ ap (λ (n : ℕ). n ∷ []) is_ten)

-- ---- what stands later, or is numbered from further below

LinesStand-weaker : (file : List ℕ) (at m n : ℕ) (lines : List LogicalLine) → n ≤ m → LinesStand file at m lines → LinesStand file at n lines
LinesStand-weaker file at m n [] le h = tt
LinesStand-weaker file at m n (l ∷ lines) le h = (omega (arith, h.0), h.1)

TokensStand-weaker : (file : List ℕ) (at : ℕ) (tokens : List Spanned) (P Q : ℕ → Type 0) → ((end : ℕ) → P end → Q end) → TokensStand file at tokens P → TokensStand file at tokens Q
TokensStand-weaker file at [] P Q f h = f at h
TokensStand-weaker file at (t ∷ tokens) P Q f h = (h.0, h.1, h.2, h.3, TokensStand-weaker file t.until tokens P Q f h.4)

nonempty_stands : (file : List ℕ) (at n m : ℕ) (tokens : List Spanned) (lines : List LogicalLine) → m ≤ n → TokensStand file at tokens (λ end. LinesStand file end (suc n) lines) → LinesStand file at m (nonempty n tokens lines)
nonempty_stands file at n m [] lines le h = LinesStand-weaker file at (suc n) m lines (omega arith) h
nonempty_stands file at n m (t ∷ tokens) lines le h = (le, h)

-- ---- a reading's tokens

-- what a piece and what follows it make
with_piece_stands : (file : List ℕ) (at line last : ℕ) (bytes : List ℕ) (p : Piece) (next : Following) → last ≤ at → 0 < length bytes → at + length bytes ≤ length file → slice_range file at (at + length bytes) ≡ bytes → Spells bytes p
    → ((k : ℕ) → k ≤ at + length bytes → TokensStand file k next.tokens (λ end. LinesStand file end (suc (line + line_ends bytes)) next.lines))
    → let now = with_piece p at (at + length bytes) (line + line_ends bytes) next in TokensStand file last now.tokens (λ end. LinesStand file end (suc line) now.lines)
with_piece_stands file at line last bytes piece.LineEnd next le some within slice spelled later =
    let ends = one_line_end bytes spelled in
    nonempty_stands file last (line + line_ends bytes) (suc line) next.tokens next.lines (omega arith) (later last (omega arith))
with_piece_stands file at line last bytes (piece.Token t) next le some within slice spelled later = (
  le,
  omega arith,
  within,
  subst (λ (x : List ℕ). Spells x (piece.Token t)) (sym slice) spelled,
  TokensStand-weaker file (at + length bytes) next.tokens _ (λ end. LinesStand file end (suc line) next.lines) (λ end h. LinesStand-weaker file end (suc (line + line_ends bytes)) (suc line) next.lines (omega arith) h) (later (at + length bytes) (omega arith)),
)
with_piece_stands file at line last bytes piece.Blank next le some within slice spelled later =
    TokensStand-weaker file last next.tokens _ (λ end. LinesStand file end (suc line) next.lines) (λ end h. LinesStand-weaker file end (suc (line + line_ends bytes)) (suc line) next.lines (omega arith) h) (later last (omega arith))
with_piece_stands file at line last bytes piece.Join next le some within slice spelled later =
    TokensStand-weaker file last next.tokens _ (λ end. LinesStand file end (suc line) next.lines) (λ end h. LinesStand-weaker file end (suc (line + line_ends bytes)) (suc line) next.lines (omega arith) h) (later last (omega arith))
with_piece_stands file at line last bytes piece.Comment next le some within slice spelled later =
    TokensStand-weaker file last next.tokens _ (λ end. LinesStand file end (suc line) next.lines) (λ end h. LinesStand-weaker file end (suc (line + line_ends bytes)) (suc line) next.lines (omega arith) h) (later last (omega arith))

slice_is : (front bytes after : List ℕ) (at : ℕ) → length front ≡ at → slice_range (front ++ (bytes ++ after)) at (at + length bytes) ≡ bytes
slice_is front bytes after at len =
    let left : drop at (front ++ (bytes ++ after)) ≡ bytes ++ after = drop_at front (bytes ++ after) at len in
    let n : at + length bytes - at ≡ length bytes = omega arith in
    ap (take (at + length bytes - at)) left ∙ ap (λ (k : ℕ). take k (bytes ++ after)) n ∙ take_at bytes after (length bytes) refl

following_stands : (file front rest : List ℕ) (at line last : ℕ) (ps : List Spelled) → file ≡ front ++ rest → length front ≡ at → last ≤ at → Reads rest ps []
    → TokensStand file last (following at line ps).tokens (λ end. LinesStand file end (suc line) (following at line ps).lines)
following_stands file front rest at line last [] split len le h = tt
following_stands file front rest at line last (s ∷ ps) split len le h =
    let whole : file ≡ front ++ (s.bytes ++ h.0) = split ∙ ap (λ (t : List ℕ). front ++ t) h.1 in
    let parts : file ≡ (front ++ s.bytes) ++ h.0 = whole ∙ sym (append_assoc front s.bytes h.0) in
    let size : length (front ++ s.bytes) ≡ at + length s.bytes = length-append front s.bytes ∙ ap (λ (n : ℕ). n + length s.bytes) len in
    let total = ap length parts in
    with_piece_stands file at line last s.bytes s.piece (following (at + length s.bytes) (line + line_ends s.bytes) ps) le (longest_some s.bytes h.0 s.piece h.2)
    (omega (arith, length-append (front ++ s.bytes) h.0))
    (ap (λ (t : List ℕ). slice_range t at (at + length s.bytes)) whole ∙ slice_is front s.bytes h.0 at len)
    h.2.spelled
    (λ k near. following_stands file (front ++ s.bytes) h.0 (at + length s.bytes) (line + line_ends s.bytes) k ps parts size near h.3)

mark_len-le : (file : List ℕ) → mark_len file ≤ length file
mark_len-le [] = omega arith
mark_len-le (a ∷ []) = omega arith
mark_len-le (a ∷ b ∷ []) = omega arith
mark_len-le (a ∷ b ∷ c ∷ bytes) = by_test _
  where
    by_test : (t : Bool) → cond t 3 0 ≤ suc (suc (suc (length bytes)))
    by_test true = omega arith
    by_test false = omega arith

pub lines_stand : (file : List ℕ) (lines : List LogicalLine) (last : ℕ) → Lexes file lines last → LinesStand file 0 1 lines
lines_stand file lines last h =
    let m = mark_len file in
    subst (LinesStand file 0 1) (sym h.as_lines)
    (nonempty_stands file 0 1 1 (following m 1 h.reading).tokens (following m 1 h.reading).lines (omega arith)
    (following_stands file (take m file) (text_of file) m 1 0 h.reading (sym (take-append-drop m file)) (length-take-le m file (mark_len-le file)) (omega arith) h.whole))

pub cut_of : (file : List ℕ) (start : ℕ) (text : List ℕ) (r : Result Lines LexFault) → start ≡ mark_len file → text ≡ drop start file → TextAnswer start text r → IfOk r (λ l. LinesStand file 0 1 (logical_lines l.lines.items))
cut_of file start text (Ok l) is_start is_text h =
    let whole : LexesFrom (mark_len file) (text_of file) (logical_lines l.lines.items) l.last =
    subst (λ (n : ℕ). LexesFrom n (drop n file) (logical_lines l.lines.items) l.last) is_start (subst (λ (t : List ℕ). LexesFrom start t (logical_lines l.lines.items) l.last) is_text h.1) in
    lines_stand file (logical_lines l.lines.items) l.last whole
cut_of file start text (Err f) is_start is_text h = tt
