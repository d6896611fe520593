-- Fields in their one spelling break no rule.
use Rattle.std.proofs.Common.{◌≡◌, ℕ, suc, ℤ, pos, negsuc, neg_ℤ, ◌+◌, ◌*◌, ◌<◌, ◌≤◌, ◌^◌, ◌/◌, ◌%◌, ◌==◌, ◌&&◌, not, Bool, true, false, List, [], ◌∷◌, ◌++◌, length, get_or, take, Some, None, is_some, refl, sym, ap, ◌∙◌, append_assoc, ⊎_elim, length-take, arith}
use Rattle.std.specs.Prelude.{nat_le, slice_index_or, FitsSigned}
use Rattle.std.specs.Char.{is_ascii_uppercase, is_digit, digit_value}
use Rattle.std.specs.Fmt.{decimal, signed_decimal, digit_glyph}
use Rattle.std.specs.Int.{w32}
use Rattle.std.specs.List.{flat_map, list_all, AllByRecursion}
use Rattle.std.specs.Str.{bytes_eq}
use Rattle.std.specs.Cmp.Lexicographic.{bytes_decides}
use Rattle.std.proofs.lemmas.Bool.{agree_below_at, and_from, and_right, and_parts, both_ways, cases_Bool, cond-true, cond-false, eqb-true, le-leb, lt-ltb, not-true}
use Rattle.std.proofs.lemmas.Fmt.{decimal_nonempty, digits_decimal, digits_value-decimal}
use Rattle.papy_base.proofs.DigitLemmas.{digit_numerals}
use Rattle.pex_values.specs.Shape.{IsReference}
use Rattle.pex_listing.specs.Breaks.{digits_rule, AtByte, AtHigh, integer_by, integer_rule, named_by, number_by, number_rule, placed_by, reference_rule, string_in, unless_spelled, unquoted, with_byte, written}
use Rattle.pex_listing.specs.Lines.{eight_digits, escaped, first_place, is_own_word, is_word, quoted, reference, two_digits}
use Rattle.pex_values.specs.Spelling.{four_bytes}
use Rattle.std.specs.List.{position_or_len}
use Rattle.std.proofs.lemmas.List.{get_or-take}
use Rattle.std.proofs.lemmas.List.Sums.{position_or_len_is}
use Rattle.pex_listing.proofs.OneField.{found}
use Rattle.pex_listing.specs.Numbers.{are_digits, is_hex_digit}

spelled_so : (text spelling : List ℕ) → text ≡ spelling → unless_spelled text spelling ≡ None
spelled_so text spelling is = cond-true _ _ _ ((bytes_decides text spelling).1 is)

decimal_digits : (n : ℕ) → n < 2 ^ 64 → are_digits (decimal n) ≡ true
decimal_digits n small = and_from _ _ (lt-ltb 0 (length (decimal n)) (decimal_nonempty n small)) (digits_decimal digit_numerals n small)

written_decimal : (n : ℕ) → n < 2 ^ 64 → written (decimal n) ≡ Some (pos n)
written_decimal n small = cond-true _ _ _ (decimal_digits n small) ∙ ap (λ k. Some (pos k)) (digits_value-decimal digit_numerals n small)

written_below : (n : ℕ) → suc n < 2 ^ 64 → written (45 ∷ decimal (suc n)) ≡ Some (negsuc n)
written_below n small = cond-false _ _ _ (and_right _ _ refl) ∙ cond-true _ _ _ (decimal_digits (suc n) small) ∙ ap (λ k. Some (neg_ℤ (pos k))) (digits_value-decimal digit_numerals (suc n) small)

pub number_unbroken : (least most n : ℕ) → least ≤ n → n ≤ most → most < 2 ^ 64 → number_rule least most (decimal n) ≡ None
number_unbroken least most n low high small =
    ap (number_by least most (decimal n)) (written_decimal n (omega arith))
    ∙ cond-true _ _ _ (and_from _ _ (le-leb least n low) (le-leb n most high))
    ∙ spelled_so (decimal n) (decimal n) refl

pub integer_unbroken : (z : ℤ) → FitsSigned w32 z → integer_rule (signed_decimal z) ≡ None
integer_unbroken (pos n) fits =
    ap (integer_by (decimal n)) (written_decimal n (omega arith)) ∙ cond-true _ _ _ (lt-ltb n 2147483648 (omega arith)) ∙ spelled_so (decimal n) (decimal n) refl
integer_unbroken (negsuc n) fits =
    ap (integer_by (signed_decimal (negsuc n))) (written_below n (omega arith)) ∙ cond-true _ _ _ (lt-ltb n 2147483648 (omega arith)) ∙ spelled_so (signed_decimal (negsuc n)) (signed_decimal (negsuc n)) refl

-- ---- strings

glyph_digit : (d : ℕ) → d < 16 → is_digit (digit_glyph false d) 16 ≡ true
glyph_digit d below = agree_below_at (λ k. is_digit (digit_glyph false k) 16) (λ k. true) 16 d refl below

glyph_value : (d : ℕ) → d < 16 → digit_value (digit_glyph false d) ≡ d
glyph_value d below = eqb-true _ _ (agree_below_at (λ k. digit_value (digit_glyph false k) == k) (λ k. true) 16 d refl below)

coded_byte : (b : ℕ) (t : List ℕ) → b < 256 → unquoted AtHigh (two_digits b ++ t) ≡ with_byte b (unquoted AtByte t)
coded_byte b t byte =
    let high : b / 16 < 16 = omega arith in
    let low : b % 16 < 16 = omega arith in
    let whole : 16 * (b / 16) + b % 16 ≡ b = omega arith in
    cond-true _ _ _ (glyph_digit (b / 16) high)
    ∙ cond-true _ _ _ (glyph_digit (b % 16) low)
    ∙ ap (λ k. with_byte k (unquoted AtByte t)) (ap (λ h. 16 * h + digit_value (digit_glyph false (b % 16))) (glyph_value (b / 16) high) ∙ ap (λ l. 16 * (b / 16) + l) (glyph_value (b % 16) low) ∙ whole)

escaped_byte : (b : ℕ) (t : List ℕ) → b < 256 → unquoted AtByte (escaped b ++ t) ≡ with_byte b (unquoted AtByte t)
escaped_byte b t byte = ⊎_elim
    (λ q. ap (λ e. unquoted AtByte (e ++ t)) (cond-true _ _ _ q) ∙ ap (λ k. with_byte k (unquoted AtByte t)) (sym (eqb-true b 34 q)))
    (λ no_quote. ⊎_elim
    (λ q. ap (λ e. unquoted AtByte (e ++ t)) (cond-false _ _ _ no_quote ∙ cond-true _ _ _ q) ∙ ap (λ k. with_byte k (unquoted AtByte t)) (sym (eqb-true b 92 q)))
    (λ no_slash. ⊎_elim
    (λ q. ap (λ e. unquoted AtByte (e ++ t)) (cond-false _ _ _ no_quote ∙ cond-false _ _ _ no_slash ∙ cond-true _ _ _ q)
    ∙ cond-false _ _ _ no_quote ∙ cond-false _ _ _ no_slash ∙ cond-true _ _ _ q)
    (λ q. ap (λ e. unquoted AtByte (e ++ t)) (cond-false _ _ _ no_quote ∙ cond-false _ _ _ no_slash ∙ cond-false _ _ _ q) ∙ coded_byte b t byte)
    (cases_Bool (nat_le 32 b && nat_le b 126)))
    (cases_Bool (b == 92)))
    (cases_Bool (b == 34))

pub string_unbroken : (t : List ℕ) → AllByRecursion (λ b. b < 256) t → unquoted AtByte (flat_map escaped t ++ 34 ∷ []) ≡ Some t
string_unbroken [] bytes = refl
string_unbroken (b ∷ t) bytes =
    ap (unquoted AtByte) (append_assoc (escaped b) (flat_map escaped t) (34 ∷ []))
    ∙ escaped_byte b (flat_map escaped t ++ 34 ∷ []) bytes.0
    ∙ ap (with_byte b) (string_unbroken t bytes.1)

-- ---- references

module _ (strings : List (List ℕ)) (p : ℕ) (known : IsReference (length strings) p) where
  none_before : (s : List ℕ) → is_some (first_place (take p strings) s) ≡ false → (k : ℕ) → k < p → bytes_eq s (get_or strings k []) ≡ false
  none_before s none k before = ⊎_elim
      (λ is. absurd (both_ways _ none (found (take p strings) s k (simp length-take (let below = known.below in omega arith)) (get_or-take p strings k [] before ∙ sym ((bytes_decides s (get_or strings k [])).0 is)))))
      (λ other. other)
      (cases_Bool (bytes_eq s (get_or strings k [])))

  place_first : (s : List ℕ) → s ≡ get_or strings p [] → is_some (first_place (take p strings) s) ≡ false → first_place strings s ≡ Some p
  place_first s is none =
      let at : position_or_len (λ (x : List ℕ). bytes_eq s x) strings ≡ p =
      position_or_len_is (λ (x : List ℕ). bytes_eq s x) strings p [] (let below = known.below in omega arith) (none_before s none) (λ inside. (bytes_decides s (get_or strings p [])).1 is) in
      cond-true _ _ _ (lt-ltb (position_or_len (λ (x : List ℕ). bytes_eq s x) strings) (length strings) (let below = known.below in omega arith)) ∙ ap Some at

  word_unbroken : is_own_word strings p (slice_index_or strings p []) ≡ true → reference_rule strings (reference strings p) ≡ None
  unfolding reference
  word_unbroken own =
      let s = slice_index_or strings p [] in
      let parts = and_parts (is_word s) (nat_le (length s) 64 && not (is_some (first_place (take p strings) s))) own in
      let none = not-true _ (and_parts (nat_le (length s) 64) (not (is_some (first_place (take p strings) s))) parts.1).1 in
      let text : reference strings p ≡ s = cond-true _ _ _ own in
      ap (reference_rule strings) text ∙ cond-true _ _ _ parts.0 ∙ ap (named_by strings s) (place_first s refl none) ∙ spelled_so s (reference strings p) (sym text)

  place_unbroken : is_own_word strings p (slice_index_or strings p []) ≡ false → reference_rule strings (reference strings p) ≡ None
  unfolding reference
  place_unbroken other =
      let text : reference strings p ≡ 35 ∷ decimal p = cond-false _ _ _ other in
      let small : p < 2 ^ 64 = omega (arith, known.fits) in
      let value = digits_value-decimal digit_numerals p small in
      ap (reference_rule strings) text
      ∙ cond-false _ _ _ (and_right _ _ refl)
      ∙ cond-true _ _ _ (decimal_digits p small)
      ∙ ap (placed_by strings (35 ∷ decimal p)) value
      ∙ cond-true _ _ _ (lt-ltb p (length strings) known.below)
      ∙ spelled_so (35 ∷ decimal p) (reference strings p) (sym text)

  pub reference_unbroken : reference_rule strings (reference strings p) ≡ None
  reference_unbroken = ⊎_elim word_unbroken place_unbroken (cases_Bool (is_own_word strings p (slice_index_or strings p [])))

-- ---- hexadecimal digits

glyph_lower : (d : ℕ) → d < 16 → not (is_ascii_uppercase (digit_glyph false d)) ≡ true
glyph_lower d below = agree_below_at (λ k. not (is_ascii_uppercase (digit_glyph false k))) (λ k. true) 16 d refl below

two_pass : (test : ℕ → Bool) → ((d : ℕ) → d < 16 → test (digit_glyph false d) ≡ true) → (bs : List ℕ) → AllByRecursion (λ b. b < 256) bs → list_all test (flat_map two_digits bs) ≡ true
two_pass test each [] bytes = refl
two_pass test each (b ∷ bs) bytes =
    let byte = bytes.0 in
    let high : b / 16 < 16 = omega arith in
    let low : b % 16 < 16 = omega arith in
    and_from _ _ (each (b / 16) high) (and_from _ _ (each (b % 16) low) (two_pass test each bs bytes.1))

four_are_bytes : (n : ℕ) → AllByRecursion (λ b. b < 256) (four_bytes n)
four_are_bytes n = (omega arith, (omega arith, (omega arith, (omega arith, tt))))

pub digits_unbroken : (n : ℕ) → digits_rule (eight_digits n) ≡ None
digits_unbroken n =
    cond-true _ _ _ (two_pass is_hex_digit glyph_digit (four_bytes n) (four_are_bytes n)) ∙ cond-true _ _ _ (two_pass (λ b. not (is_ascii_uppercase b)) glyph_lower (four_bytes n) (four_are_bytes n))

-- ---- strings in quotes

pub quoted_unbroken : (t : List ℕ) → AllByRecursion (λ b. b < 256) t → string_in (quoted t) ≡ Some t
quoted_unbroken t bytes = string_unbroken t bytes
