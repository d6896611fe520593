-- Blanks, which are passed in one go.
use Rattle.std.proofs.Common.{◌≡◌, ℕ, zero, suc, ◌+◌, ◌<◌, ◌≤◌, Bool, true, false, cond, List, [], ◌∷◌, ◌++◌, length, drop, refl, sym, ap, subst, ◌∙◌, arith}
use Rattle.std.proofs.lemmas.Bool.{eqb-true}
use Rattle.std.specs.List.{prefix_len}
use Rattle.script_lexer.specs.declared.opening.Opening.TheVariants as opening
use Rattle.script_lexer.specs.declared.piece.Piece.TheVariants as piece
use Rattle.script_lexer.specs.declared.line.Progress.{Progress}
use Rattle.script_lexer.specs.declared.fault.LexRule.{LexRule}
use Rattle.script_lexer.specs.declared.fault.LexRule.TheVariants as rule
use Rattle.script_lexer.specs.Bytes.{opening_of, is_blank, is_line_end, line_ends}
use Rattle.script_lexer.specs.Lines.{logical_lines, nonempty, following}
use Rattle.script_lexer.specs.Rules.{BreaksFrom}
use Rattle.script_lexer.specs.Answers.{Stands}
use Rattle.script_lexer.specs.Progress.{IsReady}
use Rattle.script_lexer.specs.Steps.{PassesBlanks, Steps}
use Rattle.script_lexer.proofs.Standing.{stands}
use Rattle.script_lexer.proofs.ReadingLemmas.{ReadSoFar, line_ends-cons, line_ends_none, read_more}

blank_opens : (b : ℕ) → is_blank b ≡ true → opening_of b ≡ opening.Blank
unfolding opening_of
blank_opens b e = rw e refl

no_line_end : (b : ℕ) (v : Bool) → is_line_end b ≡ v → is_blank b ≡ true → is_line_end b ≡ false
no_line_end b false e blank = e
no_line_end b true e blank = absurd (let never : false ≡ true = ap is_blank (sym (eqb-true b 10 e)) ∙ blank in cc)

ends_no_line : (b : ℕ) → is_blank b ≡ true → line_ends (b ∷ []) ≡ 0
ends_no_line b blank = omega (arith, line_ends-cons b [], line_ends_none b (no_line_end b (is_line_end b) refl blank))

no_blank_rule : (b : ℕ) (bs : List ℕ) (r : LexRule) → BreaksFrom opening.Blank r b bs → ⊥
no_blank_rule b bs rule.BadByte broken = broken
no_blank_rule b bs rule.OpenText broken = broken
no_blank_rule b bs rule.BadEscape broken = broken
no_blank_rule b bs rule.FloatLiteral broken = broken
no_blank_rule b bs rule.FloatWord broken = broken
no_blank_rule b bs rule.NumberRange broken = broken
no_blank_rule b bs rule.TextTooLong broken = broken
no_blank_rule b bs rule.OpenComment broken = broken
no_blank_rule b bs rule.TooLarge broken = broken

blank_stands : (b : ℕ) (bs : List ℕ) → is_blank b ≡ true → Stands (b ∷ bs) piece.Blank 1
blank_stands b bs blank =
    stands opening.Blank b bs piece.Blank 0 1 refl (omega arith) (blank_opens b blank) (refl, refl)
    (λ os back q e h. let none : length os ≡ 0 = ap length h.0 in omega arith)
    (no_blank_rule b bs)

-- the place one byte on
abbrev beside : Progress → Progress
beside p = record { at = p.at + 1; line = p.line; begun = p.begun; tokens = p.tokens; lines = p.lines }

blank_steps : (p : Progress) (b : ℕ) (bs : List ℕ) → IsReady p → p.line ≤ 65535 → is_blank b ≡ true → Steps p (beside p) (b ∷ bs) bs
blank_steps p b bs ready few blank =
    let here = blank_stands b bs blank in
    let none : line_ends (b ∷ []) ≡ 0 = ends_no_line b blank in
    let same : p.line + line_ends (b ∷ []) ≡ p.line = omega arith in
    record {
      piece = piece.Blank;
      bytes = b ∷ [];
      here = record { split = refl; longest = here.longest; unbroken = here.unbroken };
      few = omega (arith, few);
      takes = record {
        at = refl;
        line = sym same;
        ready = record { begun = ready.begun; fits = ready.fits };
        built = λ pieces. ap (λ (l : ℕ). logical_lines p.lines.items ++ nonempty p.begun (p.tokens.items ++ (following (p.at + 1) l pieces).tokens) (following (p.at + 1) l pieces).lines) (sym same);
      };
    }

-- what was read stays so where nothing was passed
read_same : (start : ℕ) (text : List ℕ) (old new : Progress) (rest : List ℕ) → ReadSoFar start text old rest → new.at ≡ old.at → new.line ≡ old.line → new.begun ≡ old.begun → new.tokens ≡ old.tokens → new.lines ≡ old.lines → ReadSoFar start text new rest
read_same start text old new rest so_far at line begun tokens lines = record {
  reading = so_far.reading;
  whole = so_far.whole;
  place = at ∙ so_far.place;
  line = line ∙ so_far.line;
  few = omega (arith, so_far.few);
  ready = record { begun = omega (arith, so_far.ready.begun); fits = rw (tokens, begun) so_far.ready.fits };
  built = λ pieces. rw (lines, begun, tokens, at, line) (so_far.built pieces);
  unbroken = so_far.unbroken;
}

blank_first : (b : ℕ) (bs : List ℕ) (n : ℕ) (v : Bool) → is_blank b ≡ v → suc n ≤ cond v (1 + prefix_len is_blank bs) 0 → (is_blank b ≡ true) × (n ≤ prefix_len is_blank bs)
blank_first b bs n false e le = absurd (omega arith)
blank_first b bs n true e le = (e, omega arith)

read_blanks : (n start : ℕ) (text : List ℕ) (old new : Progress) (rest : List ℕ) → ReadSoFar start text old rest → n ≤ prefix_len is_blank rest → (0 < n → old.line ≤ 65535)
    → new.at ≡ old.at + n → new.line ≡ old.line → new.begun ≡ old.begun → new.tokens ≡ old.tokens → new.lines ≡ old.lines → ReadSoFar start text new (drop n rest)
read_blanks zero start text old new rest so_far le few at line begun tokens lines = read_same start text old new rest so_far (omega arith) line begun tokens lines
read_blanks (suc n) start text old new [] so_far le few at line begun tokens lines = absurd (omega arith)
read_blanks (suc n) start text old new (b ∷ bs) so_far le few at line begun tokens lines =
    let first = blank_first b bs n (is_blank b) refl le in
    let here : old.line ≤ 65535 = few (omega arith) in
    let more = read_more start text old (beside old) (b ∷ bs) bs so_far (blank_steps old b bs so_far.ready here first.0) in
    read_blanks n start text (beside old) new bs more first.1 (λ _. here) (omega arith) line begun tokens lines

pub read_past : (start : ℕ) (text : List ℕ) (old new : Progress) (rest after : List ℕ) → ReadSoFar start text old rest → PassesBlanks old new rest after → ReadSoFar start text new after
read_past start text old new rest after so_far h =
    subst (ReadSoFar start text new) (sym h.behind) (read_blanks h.count start text old new rest so_far h.blank h.within h.at h.line h.begun h.tokens h.lines)
