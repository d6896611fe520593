-- Digits, one after another.
use Rattle.std.proofs.Common.{◌≡◌, ◌≢◌, ℕ, zero, suc, ◌<◌, ◌^◌, true, false, List, length, get_or, Some, None, Result, Ok, Err, MatchOption, sym, ap, ◌∙◌, arith}
use Rattle.std.specs.Prelude.{nat_lt}
use Rattle.std.specs.Fmt.{decimal}
use Rattle.std.specs.Result.{OkIff, result_ok}
use Rattle.std.specs.Str.Parse.{digits_value}
use Rattle.std.proofs.lemmas.Bool.{and_from, and_parts, cond-true, ltb-true, lt-ltb, eqb-true}
use Rattle.std.proofs.lemmas.Fmt.{digits_decimal, digits_value-decimal, decimal_nonempty, first_decimal, decimal_digit}
use Rattle.papy_base.specs.Digits.{decimal_number, has_leading_zero}
use Rattle.papy_base.proofs.DigitLemmas.{digit_numerals, canonical_digits}

-- the digits of a number are read as that number
read_again : (n : ℕ) → n < 2 ^ 32 → decimal_number (decimal n) ≡ Some n
read_again n small =
    let digits = digits_decimal digit_numerals n (omega arith) in
    let value = digits_value-decimal digit_numerals n (omega arith) in
    let fits : nat_lt (digits_value 10 (decimal n)) (2 ^ 64) ≡ true = lt-ltb _ _ (omega arith) in
    cond-true _ _ _ (and_from _ _ digits fits) ∙ ap Some value

-- a number of several digits has no zero in front
front_of : (n : ℕ) → n < 2 ^ 32 → 1 < length (decimal n) → get_or (decimal n) 0 0 ≡ 48 → ⊥
front_of zero small several front =
    let one = ap length (decimal_digit 0 (omega arith)) in
    omega (arith, one)
front_of (suc n) small several front = omega (arith, first_decimal (suc n) (omega arith) (omega arith))

-- what is read as no number isn't the digits of one
pub not_decimal : (digits : List ℕ) (n : ℕ) → n < 2 ^ 32 → decimal_number digits ≡ None → digits ≡ decimal n → ⊥
not_decimal digits n small none same =
    let again : decimal_number digits ≡ Some n = ap decimal_number same ∙ read_again n small in
    let never : None ≡ Some n = sym none ∙ again in
    absurd (cc)

-- what a word without such a zero is the number of
pub magnitude_is : {E : Type 0} (digits : List ℕ) (m : ℕ) (fitted : Result ℕ E) → 0 < length digits → has_leading_zero digits ≡ false → decimal_number digits ≡ Some m → OkIff fitted (m < 2 ^ 32) m → MatchOption (result_ok fitted) ((n : ℕ) → n < 2 ^ 32 → digits ≢ decimal n) (λ n. (digits ≡ decimal n) × (n < 2 ^ 32))
magnitude_is digits m (Ok n) some plain number fits = (canonical_digits digits m some number plain ∙ ap decimal (sym fits.1), omega (arith, fits.0, fits.1))
magnitude_is digits m (Err e) some plain number large = λ n small same.
    let again : decimal_number digits ≡ Some n = ap decimal_number same ∙ read_again n small in
    let alike : Some m ≡ Some n = sym number ∙ again in
    let equal : m ≡ n = cc in
    large (omega arith)

-- a number isn't written with such a zero
pub no_leading_zero : (digits : List ℕ) (n : ℕ) → n < 2 ^ 32 → has_leading_zero digits ≡ true → digits ≡ decimal n → ⊥
no_leading_zero digits n small zero_first same =
    let parts = and_parts _ _ zero_first in
    let several : 1 < length digits = ltb-true 1 (length digits) parts.0 in
    let front : get_or digits 0 0 ≡ 48 = eqb-true (get_or digits 0 0) 48 parts.1 in
    front_of n small (omega (arith, ap length same)) (sym (ap (λ (ds : List ℕ). get_or ds 0 0) same) ∙ front)

pub not_empty : (digits : List ℕ) (n : ℕ) → n < 2 ^ 32 → length digits ≡ 0 → digits ≡ decimal n → ⊥
not_empty digits n small none same = omega (arith, decimal_nonempty n (omega arith), ap length same)
