-- Fields of a kind are read in one way.
use Rattle.std.proofs.lemmas.List.{get_or-take}
use Rattle.std.specs.List.{position_or_len}
use Rattle.std.proofs.lemmas.List.Sums.{fails_before_first}
use Rattle.std.proofs.Common.{◌≡◌, ℕ, suc, ℤ, pos, negsuc, ◌+◌, ◌<◌, ◌^◌, ◌/◌, ◌%◌, ◌==◌, ◌&&◌, Bool, true, false, List, [], ◌∷◌, ◌++◌, length, get_or, take, Some, None, is_some, refl, sym, ap, ◌∙◌, append_assoc, ⊎_elim, length-take, arith}
use Rattle.std.specs.Prelude.{nat_lt, nat_le, slice_index_or, FitsSigned}
use Rattle.std.specs.Char.{is_ascii_digit}
use Rattle.std.specs.Fmt.{decimal, signed_decimal, digit_glyph}
use Rattle.std.specs.Int.{w32}
use Rattle.std.specs.Int.Signed.{mag}
use Rattle.std.specs.List.{flat_map, list_all}
use Rattle.std.specs.Str.{bytes_eq}
use Rattle.std.specs.Cmp.Lexicographic.{bytes_decides}
use Rattle.std.proofs.lemmas.Bool.{and_parts, both_ways, cases_Bool, cases_order, cond-true, cond-false, eqb-true, eqb-false, ltb-false, not-true}
use Rattle.std.proofs.lemmas.Bool.Decides.{nat_tests}
use Rattle.std.proofs.lemmas.Fmt.{decimal_injective, signed_decimal_injective, digits_decimal}
use Rattle.papy_base.proofs.DigitLemmas.{digit_numerals}
use Rattle.pex_values.specs.Shape.{IsReference}
use Rattle.pex_listing.specs.Lines.{two_digits, escaped, quoted, is_word_byte, first_place, is_own_word, reference}
use Rattle.pex_listing.proofs.Cuts.{Same, cut, is_behind, is_token, token_of, byte, past}

-- ---- numbers

pub decimal_token : (n : ℕ) → n < 2 ^ 64 → is_token (decimal n) ≡ true
decimal_token n small = token_of is_ascii_digit refl refl (decimal n) (digits_decimal digit_numerals n small)

pub number_same : (m n : ℕ) (r s : List ℕ) → m < 2 ^ 64 → n < 2 ^ 64 → is_behind r ≡ true → is_behind s ≡ true → decimal m ++ r ≡ decimal n ++ s → Same m n r s
number_same m n r s p q behind other e =
    let c = cut (decimal m) (decimal n) r s (decimal_token m p) (decimal_token n q) behind other e in
    record { first = decimal_injective m n p q c.first; rest = c.rest }

signed_size : (z : ℤ) → FitsSigned w32 z → mag z < 2 ^ 31 + 1
signed_size (pos n) fits = omega arith
signed_size (negsuc n) fits = omega arith

signed_token : (z : ℤ) → FitsSigned w32 z → is_token (signed_decimal z) ≡ true
signed_token (pos n) fits = decimal_token n (omega (arith, signed_size (pos n) fits))
signed_token (negsuc n) fits = decimal_token (suc n) (omega (arith, signed_size (negsuc n) fits))

pub signed_same : (y z : ℤ) (r s : List ℕ) → FitsSigned w32 y → FitsSigned w32 z → is_behind r ≡ true → is_behind s ≡ true → signed_decimal y ++ r ≡ signed_decimal z ++ s → Same y z r s
signed_same y z r s p q behind other e =
    let c = cut (signed_decimal y) (signed_decimal z) r s (signed_token y p) (signed_token z q) behind other e in
    record { first = signed_decimal_injective y z (omega (arith, signed_size y p)) (omega (arith, signed_size z q)) c.first; rest = c.rest }

-- ---- hexadecimal digits and strings

glyph_same : (a b : ℕ) → digit_glyph false a ≡ digit_glyph false b → a ≡ b
glyph_same a b e = grind (arith, nat_tests)

pub digits_same : (a b : ℕ) → digit_glyph false (a / 16) ≡ digit_glyph false (b / 16) → digit_glyph false (a % 16) ≡ digit_glyph false (b % 16) → a ≡ b
digits_same a b high low =
    let h = glyph_same (a / 16) (b / 16) high in
    let l = glyph_same (a % 16) (b % 16) low in
    omega arith

-- how a byte of a string is written
data Written (b : ℕ) (t : List ℕ) : Type 0 where
  quote : b ≡ 34 → t ≡ 92 ∷ 34 ∷ [] → Written b t
  backslash : b ≡ 92 → t ≡ 92 ∷ 92 ∷ [] → Written b t
  plain : (b ≡ 34 → ⊥) → (b ≡ 92 → ⊥) → t ≡ b ∷ [] → Written b t
  coded : t ≡ 92 ∷ 120 ∷ two_digits b → Written b t

written : (b : ℕ) → Written b (escaped b)
written b = ⊎_elim
    (λ q. quote (eqb-true b 34 q) (cond-true _ _ _ q))
    (λ no_quote. ⊎_elim
    (λ q. backslash (eqb-true b 92 q) (cond-false _ _ _ no_quote ∙ cond-true _ _ _ q))
    (λ no_slash. ⊎_elim
    (λ q. plain (eqb-false b 34 no_quote) (eqb-false b 92 no_slash) (cond-false _ _ _ no_quote ∙ cond-false _ _ _ no_slash ∙ cond-true _ _ _ q))
    (λ q. coded (cond-false _ _ _ no_quote ∙ cond-false _ _ _ no_slash ∙ cond-false _ _ _ q))
    (cases_Bool (nat_le 32 b && nat_le b 126)))
    (cases_Bool (b == 92)))
    (cases_Bool (b == 34))

as_written : (t v u w r s : List ℕ) → t ≡ v → u ≡ w → t ++ r ≡ u ++ s → v ++ r ≡ w ++ s
as_written t v u w r s p q e = ap (λ x. x ++ r) (sym p) ∙ e ∙ ap (λ x. x ++ s) q

same_written : (b c : ℕ) (t u r s : List ℕ) → Written b t → Written c u → t ++ r ≡ u ++ s → Same b c r s
same_written b c t u r s (quote p is) (quote q it) e =
    let f : 92 ∷ 34 ∷ r ≡ 92 ∷ 34 ∷ s = as_written t _ u _ r s is it e in
    record { first = p ∙ sym q; rest = ap (past 2) f }
same_written b c t u r s (quote p is) (backslash q it) e =
    let f : 92 ∷ 34 ∷ r ≡ 92 ∷ 92 ∷ s = as_written t _ u _ r s is it e in
    absurd (eqb-false 34 92 refl (ap (byte 1) f))
same_written b c t u r s (quote p is) (plain n2 m2 it) e =
    let f : 92 ∷ 34 ∷ r ≡ c ∷ s = as_written t _ u _ r s is it e in
    absurd (m2 (sym (ap (byte 0) f)))
same_written b c t u r s (quote p is) (coded it) e =
    let f : 92 ∷ 34 ∷ r ≡ 92 ∷ 120 ∷ digit_glyph false (c / 16) ∷ digit_glyph false (c % 16) ∷ s = as_written t _ u _ r s is it e in
    absurd (eqb-false 34 120 refl (ap (byte 1) f))
same_written b c t u r s (backslash p is) (quote q it) e =
    let f : 92 ∷ 92 ∷ r ≡ 92 ∷ 34 ∷ s = as_written t _ u _ r s is it e in
    absurd (eqb-false 92 34 refl (ap (byte 1) f))
same_written b c t u r s (backslash p is) (backslash q it) e =
    let f : 92 ∷ 92 ∷ r ≡ 92 ∷ 92 ∷ s = as_written t _ u _ r s is it e in
    record { first = p ∙ sym q; rest = ap (past 2) f }
same_written b c t u r s (backslash p is) (plain n2 m2 it) e =
    let f : 92 ∷ 92 ∷ r ≡ c ∷ s = as_written t _ u _ r s is it e in
    absurd (m2 (sym (ap (byte 0) f)))
same_written b c t u r s (backslash p is) (coded it) e =
    let f : 92 ∷ 92 ∷ r ≡ 92 ∷ 120 ∷ digit_glyph false (c / 16) ∷ digit_glyph false (c % 16) ∷ s = as_written t _ u _ r s is it e in
    absurd (eqb-false 92 120 refl (ap (byte 1) f))
same_written b c t u r s (plain n m is) (quote q it) e =
    let f : b ∷ r ≡ 92 ∷ 34 ∷ s = as_written t _ u _ r s is it e in
    absurd (m (ap (byte 0) f))
same_written b c t u r s (plain n m is) (backslash q it) e =
    let f : b ∷ r ≡ 92 ∷ 92 ∷ s = as_written t _ u _ r s is it e in
    absurd (m (ap (byte 0) f))
same_written b c t u r s (plain n m is) (plain n2 m2 it) e =
    let f : b ∷ r ≡ c ∷ s = as_written t _ u _ r s is it e in
    record { first = ap (byte 0) f; rest = ap (past 1) f }
same_written b c t u r s (plain n m is) (coded it) e =
    let f : b ∷ r ≡ 92 ∷ 120 ∷ digit_glyph false (c / 16) ∷ digit_glyph false (c % 16) ∷ s = as_written t _ u _ r s is it e in
    absurd (m (ap (byte 0) f))
same_written b c t u r s (coded is) (quote q it) e =
    let f : 92 ∷ 120 ∷ digit_glyph false (b / 16) ∷ digit_glyph false (b % 16) ∷ r ≡ 92 ∷ 34 ∷ s = as_written t _ u _ r s is it e in
    absurd (eqb-false 120 34 refl (ap (byte 1) f))
same_written b c t u r s (coded is) (backslash q it) e =
    let f : 92 ∷ 120 ∷ digit_glyph false (b / 16) ∷ digit_glyph false (b % 16) ∷ r ≡ 92 ∷ 92 ∷ s = as_written t _ u _ r s is it e in
    absurd (eqb-false 120 92 refl (ap (byte 1) f))
same_written b c t u r s (coded is) (plain n2 m2 it) e =
    let f : 92 ∷ 120 ∷ digit_glyph false (b / 16) ∷ digit_glyph false (b % 16) ∷ r ≡ c ∷ s = as_written t _ u _ r s is it e in
    absurd (m2 (sym (ap (byte 0) f)))
same_written b c t u r s (coded is) (coded it) e =
    let f : 92 ∷ 120 ∷ digit_glyph false (b / 16) ∷ digit_glyph false (b % 16) ∷ r ≡ 92 ∷ 120 ∷ digit_glyph false (c / 16) ∷ digit_glyph false (c % 16) ∷ s = as_written t _ u _ r s is it e in
    record { first = digits_same b c (ap (byte 2) f) (ap (byte 3) f); rest = ap (past 4) f }

no_quote_first : (b : ℕ) (t r s : List ℕ) → Written b t → 34 ∷ r ≡ t ++ s → ⊥
no_quote_first b t r s (quote p is) e = eqb-false 34 92 refl (ap (byte 0) (e ∙ ap (λ x. x ++ s) is))
no_quote_first b t r s (backslash p is) e = eqb-false 34 92 refl (ap (byte 0) (e ∙ ap (λ x. x ++ s) is))
no_quote_first b t r s (plain n m is) e = n (sym (ap (byte 0) (e ∙ ap (λ x. x ++ s) is)))
no_quote_first b t r s (coded is) e = eqb-false 34 92 refl (ap (byte 0) (e ∙ ap (λ x. x ++ s) is))

inner_same : (t u r s : List ℕ) → flat_map escaped t ++ 34 ∷ r ≡ flat_map escaped u ++ 34 ∷ s → Same t u r s
inner_same [] [] r s e = record { first = refl; rest = ap (past 1) e }
inner_same [] (c ∷ u) r s e = absurd (no_quote_first c (escaped c) r (flat_map escaped u ++ 34 ∷ s) (written c) (e ∙ append_assoc (escaped c) (flat_map escaped u) (34 ∷ s)))
inner_same (b ∷ t) [] r s e = absurd (no_quote_first b (escaped b) s (flat_map escaped t ++ 34 ∷ r) (written b) (sym e ∙ append_assoc (escaped b) (flat_map escaped t) (34 ∷ r)))
inner_same (b ∷ t) (c ∷ u) r s e =
    let one = same_written b c (escaped b) (escaped c) (flat_map escaped t ++ 34 ∷ r) (flat_map escaped u ++ 34 ∷ s) (written b) (written c)
    (sym (append_assoc (escaped b) (flat_map escaped t) (34 ∷ r)) ∙ e ∙ append_assoc (escaped c) (flat_map escaped u) (34 ∷ s)) in
    let more = inner_same t u r s one.rest in
    record { first = ap (λ x. x ∷ t) one.first ∙ ap (λ x. c ∷ x) more.first; rest = more.rest }

pub quoted_same : (t u r s : List ℕ) → quoted t ++ r ≡ quoted u ++ s → Same t u r s
quoted_same t u r s e =
    let inner : flat_map escaped t ++ 34 ∷ r ≡ flat_map escaped u ++ 34 ∷ s =
    sym (append_assoc (flat_map escaped t) (34 ∷ []) r) ∙ (ap (past 1) e ∙ append_assoc (flat_map escaped u) (34 ∷ []) s) in
    inner_same t u r s inner

-- ---- references

pub found : (xs : List (List ℕ)) (b : List ℕ) (p : ℕ) → p < length xs → get_or xs p [] ≡ b → is_some (first_place xs b) ≡ true
found xs b p inside is =
    let test = λ (s : List ℕ). bytes_eq b s in
    ⊎_elim
    (λ (below : nat_lt (position_or_len test xs) (length xs) ≡ true). ap is_some (cond-true _ (Some (position_or_len test xs)) None below))
    (λ past. absurd (both_ways (bytes_eq b b) (ap (bytes_eq b) (sym is) ∙ fails_before_first test xs p [] (omega (arith, ltb-false _ _ past))) ((bytes_decides b b).1 refl)))
    (cases_Bool (nat_lt (position_or_len test xs) (length xs)))

module _ (strings : List (List ℕ)) where
  own : ℕ → Bool
  own p = is_own_word strings p (slice_index_or strings p [])

  own_spelling : (p : ℕ) → own p ≡ true → reference strings p ≡ slice_index_or strings p []
  unfolding own reference
  own_spelling p is = cond-true _ _ _ is

  number_spelling : (p : ℕ) → own p ≡ false → reference strings p ≡ 35 ∷ decimal p
  unfolding own reference
  number_spelling p is = cond-false _ _ _ is

  own_word : (p : ℕ) → own p ≡ true → list_all is_word_byte (slice_index_or strings p []) ≡ true
  unfolding own
  own_word p is = (and_parts _ _ (and_parts _ _ is).0).1

  own_first : (p : ℕ) → own p ≡ true → is_some (first_place (take p strings) (slice_index_or strings p [])) ≡ false
  unfolding own
  own_first p is = not-true _ (and_parts _ _ (and_parts _ _ is).1).1

  pub reference_token : (p : ℕ) → IsReference (length strings) p → is_token (reference strings p) ≡ true
  reference_token p known = ⊎_elim
      (λ is. ap is_token (own_spelling p is) ∙ token_of is_word_byte refl refl (slice_index_or strings p []) (own_word p is))
      (λ is. ap is_token (number_spelling p is) ∙ decimal_token p (omega (arith, known.fits)))
      (cases_Bool (own p))

  no_earlier : (p q : ℕ) → p < q → q < length strings → own q ≡ true → slice_index_or strings p [] ≡ slice_index_or strings q [] → ⊥
  no_earlier p q lt inside is same =
      both_ways _ (own_first q is) (found (take q strings) (slice_index_or strings q []) p (simp length-take (omega arith)) (get_or-take q strings p [] lt ∙ same))

  words_same : (p q : ℕ) → p < length strings → q < length strings → own p ≡ true → own q ≡ true → slice_index_or strings p [] ≡ slice_index_or strings q [] → p ≡ q
  words_same p q in_p in_q is_p is_q same = ⊎_elim
      (λ e. e)
      (λ other. ⊎_elim (λ lt. absurd (no_earlier p q lt in_q is_q same)) (λ lt. absurd (no_earlier q p lt in_p is_p (sym same))) other)
      (cases_order p q)

  no_word : (p q : ℕ) → own p ≡ true → slice_index_or strings p [] ≡ 35 ∷ decimal q → ⊥
  no_word p q is same = both_ways (list_all is_word_byte (35 ∷ decimal q)) refl (sym (ap (list_all is_word_byte) same) ∙ own_word p is)

  spelled_same : (p q : ℕ) → IsReference (length strings) p → IsReference (length strings) q → reference strings p ≡ reference strings q → p ≡ q
  spelled_same p q known other e = ⊎_elim
      (λ is_p. ⊎_elim
      (λ is_q. words_same p q known.below other.below is_p is_q (sym (own_spelling p is_p) ∙ e ∙ own_spelling q is_q))
      (λ is_q. absurd (no_word p q is_p (sym (own_spelling p is_p) ∙ e ∙ number_spelling q is_q)))
      (cases_Bool (own q)))
      (λ is_p. ⊎_elim
      (λ is_q. absurd (no_word q p is_q (sym (own_spelling q is_q) ∙ sym e ∙ number_spelling p is_p)))
      (λ is_q. let f : 35 ∷ decimal p ≡ 35 ∷ decimal q = sym (number_spelling p is_p) ∙ e ∙ number_spelling q is_q in
      decimal_injective p q (omega (arith, known.fits)) (omega (arith, other.fits)) (ap (past 1) f))
      (cases_Bool (own q)))
      (cases_Bool (own p))

  pub reference_same : (p q : ℕ) (r s : List ℕ) → IsReference (length strings) p → IsReference (length strings) q → is_behind r ≡ true → is_behind s ≡ true
      → reference strings p ++ r ≡ reference strings q ++ s → Same p q r s
  reference_same p q r s known other_known behind other e =
      let c = cut (reference strings p) (reference strings q) r s (reference_token p known) (reference_token q other_known) behind other e in
      record { first = spelled_same p q known other_known c.first; rest = c.rest }
