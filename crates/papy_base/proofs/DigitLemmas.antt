-- Decimal digits, one after another, and the numbers that they write.
use Rattle.std.proofs.Common.{◌≡◌, ℕ, zero, suc, ◌+◌, ◌<◌, ◌^◌, ◌&&◌, Bool, true, false, List, [], ◌∷◌, length, get_or, take, Some, None, refl, sym, ap, ◌∙◌, ⊎_elim, arith, rules}
use Rattle.std.specs.Prelude.{nat_lt}
use Rattle.std.specs.Char.{is_ascii_digit}
use Rattle.std.specs.Fmt.{decimal}
use Rattle.std.specs.List.{list_all}
use Rattle.std.specs.Str.Parse.{digits_value}
use Rattle.std.proofs.lemmas.Bool.{and_left, and_right, and_from, and_parts, and_cases, cond-true, cond-false, ltb-true, ltb-false, eqb-false}
use Rattle.std.proofs.lemmas.List.Folds.{list_all_more}
use Rattle.std.proofs.lemmas.Fmt.{decimal-digits_value}
use Rattle.std.proofs.lemmas.Str.Parse.{IsNumeralModel, numerals_by_value}
use Rattle.papy_base.specs.Digits.{decimal_number, has_leading_zero}

pub list_all_step : {X : Type 0} (p : X → Bool) (xs : List X) (i : ℕ) (d : X) → i < length xs → list_all p (take i xs) ≡ true → p (get_or xs i d) ≡ true → list_all p (take (i + 1) xs) ≡ true
list_all_step p xs i d inside before here = list_all_more p xs i d inside ∙ and_from _ _ before here

pub list_all_fails : {X : Type 0} (p : X → Bool) (xs : List X) (i : ℕ) (d : X) → i < length xs → p (get_or xs i d) ≡ false → list_all p xs ≡ false
list_all_fails p [] i d inside fails = absurd (omega arith)
list_all_fails p (x ∷ xs) zero d inside fails = and_left _ _ fails
list_all_fails p (x ∷ xs) (suc i) d inside fails = and_right _ _ (list_all_fails p xs i d (omega arith) fails)

-- lists of decimal digits are numerals
pub digit_numerals : IsNumeralModel (λ ds. list_all is_ascii_digit ds ≡ true) (digits_value 10)
digit_numerals = numerals_by_value _ (search rules)

pub record IsNumber (digits : List ℕ) (n : ℕ) : Type 0 where
  pub value : n ≡ digits_value 10 digits
  pub small : digits_value 10 digits < 2 ^ 64
  pub digit : list_all is_ascii_digit digits ≡ true

pub number_value : (digits : List ℕ) (n : ℕ) → decimal_number digits ≡ Some n → IsNumber digits n
number_value digits n number = by_test (list_all is_ascii_digit digits && nat_lt (digits_value 10 digits) (2 ^ 64)) refl
  where
    by_test : (t : Bool) → (list_all is_ascii_digit digits && nat_lt (digits_value 10 digits) (2 ^ 64)) ≡ t → IsNumber digits n
    by_test true is =
        let same : Some n ≡ Some (digits_value 10 digits) = sym number ∙ cond-true _ _ _ is in
        let parts = and_parts _ _ is in
        record { value = cc; small = ltb-true _ _ parts.1; digit = parts.0 }
    by_test false is =
        let none : Some n ≡ None = sym number ∙ cond-false _ _ _ is in
        absurd (cc)

leads : (digits : List ℕ) → 0 < length digits → has_leading_zero digits ≡ false → get_or digits 0 0 ≡ 48 → length digits ≡ 1
leads digits some plain front = ⊎_elim (λ (short : nat_lt 1 (length digits) ≡ false). omega (arith, ltb-false 1 (length digits) short)) (λ other. absurd (eqb-false (get_or digits 0 0) 48 other front)) (and_cases _ _ plain)

-- decimal digits with no zero before another are what their number is spelled by
pub canonical_digits : (digits : List ℕ) (n : ℕ) → 0 < length digits → decimal_number digits ≡ Some n → has_leading_zero digits ≡ false → digits ≡ decimal n
canonical_digits digits n some number plain =
    let is = number_value digits n number in
    sym (ap decimal is.value ∙ decimal-digits_value digit_numerals digits is.digit some (leads digits some plain) is.small)
