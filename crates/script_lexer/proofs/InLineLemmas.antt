-- Pieces that hold no line end.
use Rattle.std.proofs.Common.{◌≡◌, ℕ, zero, suc, ◌+◌, Bool, true, false, cond, List, [], ◌∷◌, take, drop, refl, sym, ap, subst, ◌∙◌, ⊎_elim, arith}
use Rattle.std.specs.List.{prefix_len}
use Rattle.std.proofs.lemmas.Bool.{eqb-true, cases_Bool, false≢true}
use Rattle.std.specs.Char.{is_ascii_digit, is_ascii_hexdigit}
use Rattle.script_lexer.specs.declared.opening.Opening.{Opening}
use Rattle.script_lexer.specs.declared.opening.Opening.TheVariants as opening
use Rattle.script_lexer.specs.declared.piece.Piece.{Piece}
use Rattle.script_lexer.specs.declared.sign.Sign.{Sign}
use Rattle.script_lexer.specs.declared.sign.Sign.TheVariants as sign
use Rattle.script_lexer.specs.Words.{sign_spelling}
use Rattle.script_lexer.specs.Bytes.{opening_of, is_line_end, is_word_byte, line_ends, stays_in_line}
use Rattle.script_lexer.specs.Pieces.{numeral, is_hexadecimal, Completes}
use Rattle.script_lexer.specs.Answers.{Opens, Stands}
use Rattle.script_lexer.proofs.NumberLemmas.{hex_numeral, dec_numeral, hex_letter}
use Rattle.script_lexer.proofs.ReadingLemmas.{line_ends-cons, line_ends_none}

ten_opens : opening_of 10 ≡ opening.LineEnd
unfolding opening_of
ten_opens = refl

-- a byte that passes a test is no line end where that fails the test
no_end : (t : ℕ → Bool) (x : ℕ) (v : Bool) → t 10 ≡ false → is_line_end x ≡ v → t x ≡ true → is_line_end x ≡ false
no_end t x false fails e passes = e
no_end t x true fails e passes = absurd (false≢true (sym (ap t (eqb-true x 10 e) ∙ fails) ∙ passes))

pub no_end_opens : (b : ℕ) → stays_in_line (opening_of b) ≡ true → is_line_end b ≡ false
no_end_opens b e = no_end (λ x. stays_in_line (opening_of x)) b (is_line_end b) (ap stays_in_line ten_opens) refl e

none_more : (x : ℕ) (xs : List ℕ) → is_line_end x ≡ false → line_ends xs ≡ 0 → line_ends (x ∷ xs) ≡ 0
none_more x xs differs none = omega (arith, line_ends-cons x xs, line_ends_none x differs)

run_more : (t : ℕ → Bool) (x : ℕ) (xs : List ℕ) (v : Bool) → t 10 ≡ false → t x ≡ v → drop (cond v (1 + prefix_len t xs) 0) (x ∷ xs) ≡ [] → (drop (prefix_len t xs) xs ≡ [] → line_ends xs ≡ 0) → line_ends (x ∷ xs) ≡ 0
run_more t x xs false fails e h later = absurd (let nothing : x ∷ xs ≡ [] = h in cc)
run_more t x xs true fails e h later =
    let on : 1 + prefix_len t xs ≡ suc (prefix_len t xs) = omega arith in
    let rest : drop (prefix_len t xs) xs ≡ [] = sym (ap (λ (n : ℕ). drop n (x ∷ xs)) on) ∙ h in
    none_more x xs (no_end t x (is_line_end x) fails refl e) (later rest)

-- bytes that all pass a test that a line end fails
run_ends : (t : ℕ → Bool) (bs : List ℕ) → t 10 ≡ false → drop (prefix_len t bs) bs ≡ [] → line_ends bs ≡ 0
run_ends t [] fails h = refl
run_ends t (x ∷ xs) fails h = run_more t x xs (t x) fails refl h (run_ends t xs fails)

sign_ends : (s : Sign) → line_ends (sign_spelling s) ≡ 0
sign_ends sign.OpenParen = refl
sign_ends sign.CloseParen = refl
sign_ends sign.OpenBracket = refl
sign_ends sign.CloseBracket = refl
sign_ends sign.Comma = refl
sign_ends sign.Dot = refl
sign_ends sign.Assign = refl
sign_ends sign.Equal = refl
sign_ends sign.NotEqual = refl
sign_ends sign.Less = refl
sign_ends sign.Greater = refl
sign_ends sign.LessEqual = refl
sign_ends sign.GreaterEqual = refl
sign_ends sign.Plus = refl
sign_ends sign.Minus = refl
sign_ends sign.Star = refl
sign_ends sign.Slash = refl
sign_ends sign.Percent = refl
sign_ends sign.Not = refl
sign_ends sign.And = refl
sign_ends sign.Or = refl
sign_ends sign.PlusAssign = refl
sign_ends sign.MinusAssign = refl
sign_ends sign.StarAssign = refl
sign_ends sign.SlashAssign = refl
sign_ends sign.PercentAssign = refl

hex_ends : (b : ℕ) (bs : List ℕ) → is_hexadecimal b bs ≡ true → (numeral b bs).after ≡ [] → line_ends bs ≡ 0
hex_ends b [] hex h = absurd cc
hex_ends b (x ∷ hs) hex h =
    let rest : drop (prefix_len is_ascii_hexdigit hs) hs ≡ [] = sym (ap (λ n. n.after) (hex_numeral b (x ∷ hs) hex)) ∙ h in
    none_more x hs (rw (hex_letter b x hs hex) refl) (run_ends is_ascii_hexdigit hs refl rest)

number_ends : (b : ℕ) (bs : List ℕ) → (numeral b bs).after ≡ [] → line_ends bs ≡ 0
number_ends b bs h =
    ⊎_elim
    (λ (hex : is_hexadecimal b bs ≡ true). hex_ends b bs hex h)
    (λ (dec : is_hexadecimal b bs ≡ false).
    let rest : drop (prefix_len is_ascii_digit bs) bs ≡ [] = sym (ap (λ n. n.after) (dec_numeral b bs dec)) ∙ h in
    run_ends is_ascii_digit bs refl rest)
    (cases_Bool (is_hexadecimal b bs))

by_opening : (o : Opening) (b : ℕ) (bs : List ℕ) (p : Piece) → opening_of b ≡ o → Completes o b bs p → stays_in_line o ≡ true → line_ends (b ∷ bs) ≡ 0
by_opening opening.Blank b bs p opens h stays = absurd (false≢true stays)
by_opening opening.LineEnd b bs p opens h stays = absurd (false≢true stays)
by_opening opening.Join b bs p opens h stays = absurd (false≢true stays)
by_opening opening.Comment b bs p opens h stays = absurd (false≢true stays)
by_opening opening.Documentation b bs p opens h stays = absurd (false≢true stays)
by_opening opening.Quote b bs p opens h stays = absurd (false≢true stays)
by_opening opening.Number b bs p opens h stays = none_more b bs (no_end_opens b (ap stays_in_line opens)) (number_ends b bs h.0)
by_opening opening.Word b bs p opens h stays = none_more b bs (no_end_opens b (ap stays_in_line opens)) (run_ends is_word_byte bs refl h.0)
by_opening opening.Sign b bs p opens h stays = ap line_ends h.1 ∙ sign_ends h.0
by_opening opening.Nothing b bs p opens h stays = absurd (false≢true stays)

-- a piece that opens so holds none
pub holds_no_line_end : (o : Opening) (rest bytes : List ℕ) (p : Piece) (len : ℕ) → Opens o rest → Stands rest p len → bytes ≡ take len rest → stays_in_line o ≡ true → line_ends bytes ≡ 0
holds_no_line_end o [] bytes p len opens h front stays = absurd opens
holds_no_line_end o (b ∷ bs) bytes p zero opens h front stays = absurd (omega (arith, h.some))
holds_no_line_end o (b ∷ bs) bytes p (suc n) opens h front stays =
    let whole : Completes o b (take n bs) p = subst (λ (x : Opening). Completes x b (take n bs) p) opens h.longest.spelled in
    ap line_ends front ∙ by_opening o b (take n bs) p opens whole stays
