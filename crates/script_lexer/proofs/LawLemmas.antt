-- A file has one answer.
use Rattle.std.proofs.Common.{◌≡◌, ℕ, ◌+◌, ◌≤◌, List, [], ◌∷◌, ◌++◌, length, map, take, refl, sym, ap, subst, ◌∙◌, inl, inr, arith}
use Rattle.std.specs.Prelude.{◌==◌, if◌then◌else◌}
use Rattle.std.proofs.lemmas.List.{length-append}
use Rattle.script_lexer.specs.declared.opening.Opening.{Opening}
use Rattle.script_lexer.specs.declared.opening.Opening.TheVariants as opening
use Rattle.script_lexer.specs.declared.token.Token.{Token}
use Rattle.script_lexer.specs.declared.token.Token.TheVariants as token
use Rattle.script_lexer.specs.declared.sign.Sign.{Sign}
use Rattle.script_lexer.specs.declared.quoted.TextItem.{TextItem}
use Rattle.script_lexer.specs.declared.piece.Piece.{Piece}
use Rattle.script_lexer.specs.declared.piece.Piece.TheVariants as piece
use Rattle.script_lexer.specs.declared.fault.LexRule.{LexRule}
use Rattle.script_lexer.specs.declared.fault.LexRule.TheVariants as rule
use Rattle.script_lexer.specs.Bytes.{opening_of, line_ends}
use Rattle.script_lexer.specs.Pieces.{Completes, Spells, IsLongest, IsWord, item_value}
use Rattle.script_lexer.specs.Rules.{rule_number}
use Rattle.script_lexer.specs.Lines.{Spelled, Reads, LogicalLine, lines_of, mark_len, text_of, IsBroken, IsFirstBroken, Answer, Cut, Refused, IsAnswer}
use Rattle.script_lexer.proofs.KeywordLemmas.{same_keyword}
use Rattle.script_lexer.proofs.SignLemmas.{same_sign}
use Rattle.script_lexer.proofs.TextLemmas.{same_items}
use Rattle.script_lexer.proofs.ReadingLemmas.{same_length, same_bytes, same_after, longest_some}

same_word : (bytes : List ℕ) (t u : Token) → IsWord bytes t → IsWord bytes u → t ≡ u
same_word bytes t u (inl h) (inl g) = h.2 ∙ ap token.Key (same_keyword h.0 g.0 (sym h.1 ∙ g.1)) ∙ sym g.2
same_word bytes t u (inl h) (inr g) = absurd (g.0 h.0 h.1)
same_word bytes t u (inr h) (inl g) = absurd (h.0 g.0 g.1)
same_word bytes t u (inr h) (inr g) = h.1 ∙ sym g.1

-- bytes that complete a piece complete no other
same_piece : (o : Opening) (b : ℕ) (bytes : List ℕ) (p q : Piece) → Completes o b bytes p → Completes o b bytes q → p ≡ q
same_piece opening.Blank b bytes p q h g = h.1 ∙ sym g.1
same_piece opening.LineEnd b bytes p q h g = h.1 ∙ sym g.1
same_piece opening.Join b bytes p q h g = h.1 ∙ sym g.1
same_piece opening.Comment b bytes p q h g = h.1 ∙ sym g.1
same_piece opening.Documentation b bytes p q h g = h.1 ∙ sym g.1
same_piece opening.Quote b bytes p q h g =
    let same = same_items h.0 g.0 (34 ∷ []) (34 ∷ []) h.1 g.1 (inl refl) (inl refl) (sym h.3 ∙ g.3) in
    h.4 ∙ ap (λ (items : List TextItem). piece.Token (token.Quoted (map item_value items))) same.0 ∙ sym g.4
same_piece opening.Number b bytes p q h g = h.1 ∙ sym g.1
same_piece opening.Word b bytes p q h g = h.1.2 ∙ ap piece.Token (same_word (b ∷ bytes) h.1.0 g.1.0 h.1.1 g.1.1) ∙ sym g.1.2
same_piece opening.Sign b bytes p q h g = h.2 ∙ ap (λ (s : Sign). piece.Token (token.Sign s)) (same_sign h.0 g.0 (sym h.1 ∙ g.1)) ∙ sym g.2
same_piece opening.Nothing b bytes p q h g = absurd h

same_spelled : (bytes : List ℕ) (p q : Piece) → Spells bytes p → Spells bytes q → p ≡ q
same_spelled [] p q h g = absurd h
same_spelled (b ∷ bytes) p q h g = same_piece (opening_of b) b bytes p q h g

spelled_is : (s t : Spelled) → s.piece ≡ t.piece → s.bytes ≡ t.bytes → s ≡ t
spelled_is s t e f =
    let mk : Piece → List ℕ → Spelled = λ p bytes. record { piece = p; bytes = bytes } in
    ap (λ (p : Piece). mk p s.bytes) e ∙ ap (λ (bytes : List ℕ). mk t.piece bytes) f

no_empty_piece : (s : Spelled) (after : List ℕ) → IsLongest s.bytes after s.piece → [] ≡ s.bytes ++ after → ⊥
no_empty_piece s after h e =
    let some = longest_some s.bytes after s.piece h in
    let len = ap length e in
    omega (arith, length-append s.bytes after)

cons_is : (s t : Spelled) (ps qs : List Spelled) → s ≡ t → ps ≡ qs → s ∷ ps ≡ t ∷ qs
cons_is s t ps qs e f = cc

pub one_reading : (text : List ℕ) (ps qs : List Spelled) → Reads text ps [] → Reads text qs [] → ps ≡ qs
one_reading text [] [] h g = refl
one_reading text [] (q ∷ qs) h g = absurd (no_empty_piece q g.0 g.2 (sym h ∙ g.1))
one_reading text (p ∷ ps) [] h g = absurd (no_empty_piece p h.0 h.2 (sym g ∙ h.1))
one_reading text (p ∷ ps) (q ∷ qs) h g =
    let e : p.bytes ++ h.0 ≡ q.bytes ++ g.0 = sym h.1 ∙ g.1 in
    let len = same_length p.bytes h.0 q.bytes g.0 p.piece q.piece e h.2 g.2 in
    let bytes = same_bytes p.bytes h.0 q.bytes g.0 e len in
    let after = same_after p.bytes h.0 q.bytes g.0 e len in
    let what = same_spelled q.bytes p.piece q.piece (subst (λ (t : List ℕ). Spells t p.piece) bytes h.2.spelled) g.2.spelled in
    cons_is p q ps qs (spelled_is p q what bytes) (one_reading h.0 ps qs h.3 (subst (λ (t : List ℕ). Reads t qs []) (sym after) g.3))

abbrev rule_of : ℕ → LexRule
rule_of n =
    if n == 1 then rule.BadByte
    else (if n == 2 then rule.OpenText
    else (if n == 3 then rule.BadEscape
    else (if n == 4 then rule.FloatLiteral
    else (if n == 5 then rule.FloatWord
    else (if n == 6 then rule.NumberRange
    else (if n == 7 then rule.TextTooLong
    else (if n == 8 then rule.OpenComment
    else rule.TooLarge)))))))

rule_of-number : (r : LexRule) → rule_of (rule_number r) ≡ r
rule_of-number rule.BadByte = refl
rule_of-number rule.OpenText = refl
rule_of-number rule.BadEscape = refl
rule_of-number rule.FloatLiteral = refl
rule_of-number rule.FloatWord = refl
rule_of-number rule.NumberRange = refl
rule_of-number rule.TextTooLong = refl
rule_of-number rule.OpenComment = refl
rule_of-number rule.TooLarge = refl

same_rule : (q r : LexRule) → rule_number q ≡ rule_number r → q ≡ r
same_rule q r e = sym (rule_of-number q) ∙ ap rule_of e ∙ rule_of-number r

-- the first broken rule of a text is one, and so is its place
same_first : (text : List ℕ) (m n : ℕ) (q r : LexRule) → IsFirstBroken text m q → IsFirstBroken text n r → (m ≡ n) × (q ≡ r)
same_first text m n q r h g =
    let le : m ≤ n = h.least n r g.broken in
    let ge : n ≤ m = g.least m q h.broken in
    let same : m ≡ n = omega arith in
    let low : rule_number q ≤ rule_number r = h.lowest r (subst (λ (k : ℕ). IsBroken text k r) (sym same) g.broken) in
    let high : rule_number r ≤ rule_number q = g.lowest q (subst (λ (k : ℕ). IsBroken text k q) same h.broken) in
    (same, same_rule q r (omega arith))

refused_is : (m n : ℕ) (q r : LexRule) → m ≡ n → q ≡ r → Refused m q ≡ Refused n r
refused_is m n q r e f = cc

cut_is : (ks ls : List LogicalLine) (m n : ℕ) → ks ≡ ls → m ≡ n → Cut ks m ≡ Cut ls n
cut_is ks ls m n e f = cc

pub one_answer-law : (file : List ℕ) (x y : Answer) → IsAnswer file x → IsAnswer file y → x ≡ y
one_answer-law file (Cut ks m) (Cut ls n) h g =
    let same = one_reading (text_of file) h.2.reading g.2.reading h.2.whole g.2.whole in
    cut_is ks ls m n (h.2.as_lines ∙ ap (lines_of (mark_len file)) same ∙ sym g.2.as_lines) (h.2.as_last ∙ sym g.2.as_last)
one_answer-law file (Cut ks m) (Refused line r) h (inl g) = absurd (omega (arith, h.0, g.0))
one_answer-law file (Cut ks m) (Refused line r) h (inr g) = absurd (h.1 g.1.0 r g.1.1.broken)
one_answer-law file (Refused line r) (Cut ks m) (inl h) g = absurd (omega (arith, h.0, g.0))
one_answer-law file (Refused line r) (Cut ks m) (inr h) g = absurd (g.1 h.1.0 r h.1.1.broken)
one_answer-law file (Refused line q) (Refused other r) (inl h) (inl g) = refused_is line other q r (h.1 ∙ sym g.1) (h.2 ∙ sym g.2)
one_answer-law file (Refused line q) (Refused other r) (inl h) (inr g) = absurd (omega (arith, h.0, g.0))
one_answer-law file (Refused line q) (Refused other r) (inr h) (inl g) = absurd (omega (arith, h.0, g.0))
one_answer-law file (Refused line q) (Refused other r) (inr h) (inr g) =
    let same = same_first (text_of file) h.1.0 g.1.0 q r h.1.1 g.1.1 in
    refused_is line other q r (h.1.2 ∙ ap (λ (k : ℕ). 1 + line_ends (take k (text_of file))) same.0 ∙ sym g.1.2) same.1
