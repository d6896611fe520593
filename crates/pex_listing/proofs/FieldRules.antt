-- The rules that fields break, by what reading them finds.
use Rattle.std.proofs.Common.{◌≡◌, ℕ, zero, suc, ℤ, pos, negsuc, neg_ℤ, ◌<◌, ◌≤◌, ◌^◌, ◌==◌, ◌&&◌, Bool, true, false, not, cond, List, [], ◌∷◌, length, Option, Some, None, Ok, refl, sym, ap, ◌∙◌, ⊎_elim, drop, arith}
use Rattle.std.specs.Prelude.{nat_le, nat_lt, ok_or}
use Rattle.std.specs.Char.{is_ascii_digit, is_ascii_uppercase}
use Rattle.std.specs.Fmt.{decimal, signed_decimal}
use Rattle.std.specs.List.{list_all, position_or_len}
use Rattle.std.specs.Str.{bytes_eq}
use Rattle.std.specs.Str.Parse.{digits_value}
use Rattle.std.proofs.lemmas.Bool.{and_from, and_parts, and_right, ltb-false, ltb-true, false≢true, cases_Bool, cond-true, cond-false, eqb-true, leb-true, lt-ltb}
use Rattle.papy_base.specs.Digits.{decimal_number}
use Rattle.pex_listing.specs.Breaks.{digits_rule, front, integer_by, integer_rule, number_by, number_by_value, number_in, number_rule, named_by, placed_by, reference_rule, unless_spelled, written}
use Rattle.pex_listing.specs.Fields.{byte_of, place_rule}
use Rattle.pex_listing.specs.Left.{rule_of}
use Rattle.pex_listing.specs.Lines.{first_place, is_word, is_word_byte}
use Rattle.pex_listing.specs.Spelled.{two_byte}
use Rattle.pex_listing.specs.Numbers.{are_digits, is_hex_digit}
use Rattle.pex_listing.specs.declared.faults.ListingRule.TheVariants.{BadLine, BadName, NotCanonical}

pub by_flag : {T : Type 0} (x : T) (flag same : Bool) → flag ≡ same → rule_of (Some (x, flag)) ≡ cond same None (Some NotCanonical)
by_flag x true true is = refl
by_flag x false false is = refl
by_flag x true false is = absurd (false≢true (sym is))
by_flag x false true is = absurd (false≢true is)

-- ---- numbers

no_digits : (t : List ℕ) → are_digits (45 ∷ t) ≡ false
no_digits t = and_right _ _ refl

module _ (text digits : List ℕ) where
  pub written_so : (neg : Bool) → text ≡ cond neg (45 ∷ digits) digits → are_digits digits ≡ true → written text ≡ Some (cond neg (neg_ℤ (pos (digits_value 10 digits))) (pos (digits_value 10 digits)))
  written_so true whole are = ap written whole ∙ cond-false _ _ _ (no_digits digits) ∙ cond-true _ _ _ are
  written_so false whole are = ap written whole ∙ cond-true _ _ _ are

  pub not_written : (neg : Bool) → text ≡ cond neg (45 ∷ digits) digits → neg ≡ (front text == 45) → are_digits digits ≡ false → written text ≡ None
  not_written true whole minus are = ap written whole ∙ cond-false _ _ _ (no_digits digits) ∙ cond-false _ _ _ are
  not_written false whole minus are =
      ap written whole ∙ cond-false _ _ _ are ∙ cond-false _ _ _ (ap (λ t. (front t == 45) && are_digits (drop 1 digits)) (sym whole) ∙ ap (λ b. b && are_digits (drop 1 digits)) (sym minus))

not_false : (b : Bool) → not b ≡ false → b ≡ true
not_false true is = refl
not_false false is = absurd (false≢true (sym is))

positive : (neg : Bool) (n : ℕ) → (neg && not (n == 0)) ≡ false → cond neg (neg_ℤ (pos n)) (pos n) ≡ pos n
positive false n is = refl
positive true zero is = refl
positive true (suc n) is = let zero_is : suc n ≡ 0 = eqb-true (suc n) 0 (not_false (suc n == 0) is) in absurd (omega arith)

outside : (least most : ℕ) (text : List ℕ) (neg : Bool) (n : ℕ) → (nat_le least n && nat_le n most) ≡ false → number_by least most text (Some (cond neg (neg_ℤ (pos n)) (pos n))) ≡ Some BadLine
outside least most text false n is = cond-false _ _ _ is
outside least most text true zero is = cond-false _ _ _ is
outside least most text true (suc n) is = refl

below : (least most : ℕ) (text : List ℕ) (neg : Bool) (n : ℕ) → (neg && not (n == 0)) ≡ true → number_by least most text (Some (cond neg (neg_ℤ (pos n)) (pos n))) ≡ Some BadLine
below least most text false n is = absurd (false≢true is)
below least most text true zero is = absurd (false≢true is)
below least most text true (suc n) is = refl

module _ (least most : ℕ) (text digits : List ℕ) (neg : Bool) (whole : text ≡ cond neg (45 ∷ digits) digits) where
  pub number_no_digits : neg ≡ (front text == 45) → are_digits digits ≡ false → Some BadLine ≡ number_rule least most text
  number_no_digits minus are = sym (ap (number_by least most text) (not_written text digits neg whole minus are))

  pub number_outside : (n : ℕ) → are_digits digits ≡ true → n ≡ digits_value 10 digits → (nat_le least n && nat_le n most) ≡ false → Some BadLine ≡ number_rule least most text
  number_outside n are value is =
      sym (ap (number_by least most text) (written_so text digits neg whole are) ∙ ap (λ k. number_by least most text (Some (cond neg (neg_ℤ (pos k)) (pos k)))) (sym value) ∙ outside least most text neg n is)

  pub number_below : (n : ℕ) → are_digits digits ≡ true → n ≡ digits_value 10 digits → (neg && not (n == 0)) ≡ true → Some BadLine ≡ number_rule least most text
  number_below n are value is =
      sym (ap (number_by least most text) (written_so text digits neg whole are) ∙ ap (λ k. number_by least most text (Some (cond neg (neg_ℤ (pos k)) (pos k)))) (sym value) ∙ below least most text neg n is)

  written_here : (n : ℕ) → are_digits digits ≡ true → n ≡ digits_value 10 digits → (neg && not (n == 0)) ≡ false → written text ≡ Some (pos n)
  written_here n are value is = written_so text digits neg whole are ∙ ap (λ k. Some (cond neg (neg_ℤ (pos k)) (pos k))) (sym value) ∙ ap Some (positive neg n is)

  pub number_here : (n : ℕ) (flag : Bool) → are_digits digits ≡ true → n ≡ digits_value 10 digits → (neg && not (n == 0)) ≡ false → (nat_le least n && nat_le n most) ≡ true → flag ≡ bytes_eq text (decimal n)
      → rule_of (Some (n, flag)) ≡ number_rule least most text
  number_here n flag are value is within spelled =
      by_flag n flag (bytes_eq text (decimal n)) spelled ∙ sym (ap (number_by least most text) (written_here n are value is) ∙ cond-true _ _ _ within)

  pub value_here : (n : ℕ) → are_digits digits ≡ true → n ≡ digits_value 10 digits → (neg && not (n == 0)) ≡ false → n ≡ number_in text
  value_here n are value is = sym (ap number_by_value (written_here n are value is))

signed_by : (text : List ℕ) (neg : Bool) (n : ℕ) (fits : Bool) → fits ≡ cond neg (nat_le n 2147483648) (nat_lt n 2147483648)
    → integer_by text (Some (cond neg (neg_ℤ (pos n)) (pos n))) ≡ cond fits (unless_spelled text (signed_decimal (cond neg (neg_ℤ (pos n)) (pos n)))) (Some BadLine)
signed_by text false n fits is = ap (λ b. cond b (unless_spelled text (signed_decimal (pos n))) (Some BadLine)) (sym is)
signed_by text true zero fits is = ap (λ b. cond b (unless_spelled text (signed_decimal (pos 0))) (Some BadLine)) (sym is)
signed_by text true (suc n) fits is = ap (λ b. cond b (unless_spelled text (signed_decimal (negsuc n))) (Some BadLine)) (sym is)

module _ (text digits : List ℕ) (neg : Bool) (whole : text ≡ cond neg (45 ∷ digits) digits) where
  pub integer_no_digits : neg ≡ (front text == 45) → are_digits digits ≡ false → Some BadLine ≡ integer_rule text
  integer_no_digits minus are = sym (ap (integer_by text) (not_written text digits neg whole minus are))

  integer_so : (n : ℕ) (fits : Bool) → are_digits digits ≡ true → n ≡ digits_value 10 digits → fits ≡ cond neg (nat_le n 2147483648) (nat_lt n 2147483648)
      → integer_rule text ≡ cond fits (unless_spelled text (signed_decimal (cond neg (neg_ℤ (pos n)) (pos n)))) (Some BadLine)
  integer_so n fits are value is =
      ap (integer_by text) (written_so text digits neg whole are) ∙ ap (λ k. integer_by text (Some (cond neg (neg_ℤ (pos k)) (pos k)))) (sym value) ∙ signed_by text neg n fits is

  pub integer_outside : (n : ℕ) → are_digits digits ≡ true → n ≡ digits_value 10 digits → false ≡ cond neg (nat_le n 2147483648) (nat_lt n 2147483648) → Some BadLine ≡ integer_rule text
  integer_outside n are value is = sym (integer_so n false are value is)

  pub integer_here : {T : Type 0} (x : T) (n : ℕ) (z : ℤ) (flag : Bool) → are_digits digits ≡ true → n ≡ digits_value 10 digits → true ≡ cond neg (nat_le n 2147483648) (nat_lt n 2147483648) → z ≡ cond neg (neg_ℤ (pos n)) (pos n)
      → flag ≡ bytes_eq text (signed_decimal z) → rule_of (Some (x, flag)) ≡ integer_rule text
  integer_here x n z flag are value is same spelled =
      by_flag x flag (bytes_eq text (signed_decimal z)) spelled ∙ ap (λ y. unless_spelled text (signed_decimal y)) same ∙ sym (integer_so n true are value is)

-- digits whose number has more than 64 bits
pub too_big : (digits : List ℕ) → are_digits digits ≡ true → None ≡ decimal_number digits → 2 ^ 64 ≤ digits_value 10 digits
too_big digits are none = ⊎_elim
    (λ (small : nat_lt (digits_value 10 digits) (2 ^ 64) ≡ true). let both : (list_all is_ascii_digit digits && nat_lt (digits_value 10 digits) (2 ^ 64)) ≡ true = and_from (list_all is_ascii_digit digits) (nat_lt (digits_value 10 digits) (2 ^ 64)) (and_parts (nat_lt 0 (length digits)) (list_all is_ascii_digit digits) are).1 small in
    let some : None ≡ Some (digits_value 10 digits) = none ∙ cond-true (list_all is_ascii_digit digits && nat_lt (digits_value 10 digits) (2 ^ 64)) (Some (digits_value 10 digits)) None both in
    absurd cc)
    (λ (big : nat_lt (digits_value 10 digits) (2 ^ 64) ≡ false). ltb-false _ _ big)
    (cases_Bool (nat_lt (digits_value 10 digits) (2 ^ 64)))

not_le : (a b : ℕ) → b < a → nat_le a b ≡ false
not_le a b under = ⊎_elim (λ (is : nat_le a b ≡ true). let no = leb-true a b is in absurd (omega arith)) (λ is. is) (cases_Bool (nat_le a b))

pub not_within : (least n most : ℕ) → most < n → (nat_le least n && nat_le n most) ≡ false
not_within least n most over = and_right _ _ (not_le n most over)

pub no_fit : (neg : Bool) (n : ℕ) → 2147483648 < n → false ≡ cond neg (nat_le n 2147483648) (nat_lt n 2147483648)
no_fit true n over = sym (not_le n 2147483648 over)
no_fit false n over = sym (not_le (suc n) 2147483648 (omega arith))

-- ---- hexadecimal digits

eight : (a b c d e f g h : Bool) → (a && (b && (c && (d && (e && (f && (g && (h && true)))))))) ≡ (((a && b) && (c && d)) && ((e && f) && (g && h)))
eight false b c d e f g h = refl
eight true false c d e f g h = refl
eight true true false d e f g h = refl
eight true true true false e f g h = refl
eight true true true true false f g h = refl
eight true true true true true false g h = refl
eight true true true true true true false h = refl
eight true true true true true true true false = refl
eight true true true true true true true true = refl

pub no_byte : (a b : ℕ) → None ≡ byte_of a b → (is_hex_digit a && is_hex_digit b) ≡ false
no_byte a b none = ⊎_elim
    (λ (is : (is_hex_digit a && is_hex_digit b) ≡ true). let some = none ∙ cond-true (is_hex_digit a && is_hex_digit b) _ None is in absurd cc)
    (λ is. is)
    (cases_Bool (is_hex_digit a && is_hex_digit b))

pub a_byte_is : (a b x : ℕ) → Some x ≡ byte_of a b → (is_hex_digit a && is_hex_digit b) ≡ true
a_byte_is a b x some = ⊎_elim
    (λ is. is)
    (λ (is : (is_hex_digit a && is_hex_digit b) ≡ false). let none : Some x ≡ None = some ∙ cond-false (is_hex_digit a && is_hex_digit b) _ None is in absurd cc)
    (cases_Bool (is_hex_digit a && is_hex_digit b))

module _ (a b c d e f g h : ℕ) where
  abbrev pub all_eight : List ℕ
  all_eight = a ∷ b ∷ c ∷ d ∷ e ∷ f ∷ g ∷ h ∷ []

  digits_bad : (((is_hex_digit a && is_hex_digit b) && (is_hex_digit c && is_hex_digit d)) && ((is_hex_digit e && is_hex_digit f) && (is_hex_digit g && is_hex_digit h))) ≡ false → Some BadLine ≡ digits_rule all_eight
  digits_bad is = sym (cond-false _ _ _ (eight (is_hex_digit a) (is_hex_digit b) (is_hex_digit c) (is_hex_digit d) (is_hex_digit e) (is_hex_digit f) (is_hex_digit g) (is_hex_digit h) ∙ is))

  pub second_bad : None ≡ byte_of c d → Some BadLine ≡ digits_rule all_eight
  second_bad none =
      digits_bad (ap (λ t. t && ((is_hex_digit e && is_hex_digit f) && (is_hex_digit g && is_hex_digit h))) (and_right (is_hex_digit a && is_hex_digit b) (is_hex_digit c && is_hex_digit d) (no_byte c d none)))

  pub third_bad : None ≡ byte_of e f → Some BadLine ≡ digits_rule all_eight
  third_bad none = digits_bad (and_right ((is_hex_digit a && is_hex_digit b) && (is_hex_digit c && is_hex_digit d)) ((is_hex_digit e && is_hex_digit f) && (is_hex_digit g && is_hex_digit h)) (ap (λ t. t && (is_hex_digit g && is_hex_digit h)) (no_byte e f none)))

  pub fourth_bad : None ≡ byte_of g h → Some BadLine ≡ digits_rule all_eight
  fourth_bad none = digits_bad (and_right ((is_hex_digit a && is_hex_digit b) && (is_hex_digit c && is_hex_digit d)) ((is_hex_digit e && is_hex_digit f) && (is_hex_digit g && is_hex_digit h)) (and_right (is_hex_digit e && is_hex_digit f) (is_hex_digit g && is_hex_digit h) (no_byte g h none)))

  abbrev lower : ℕ → Bool
  lower b = not (is_ascii_uppercase b)

  pub digits_here : {T : Type 0} (x : T) (flag : Bool) (p q r s : ℕ) → Some p ≡ byte_of a b → Some q ≡ byte_of c d → Some r ≡ byte_of e f → Some s ≡ byte_of g h
      → flag ≡ (((lower a && lower b) && (lower c && lower d)) && ((lower e && lower f) && (lower g && lower h))) → rule_of (Some (x, flag)) ≡ digits_rule all_eight
  digits_here x flag p q r s first second third fourth is =
      by_flag x flag (list_all lower all_eight) (is ∙ sym (eight (lower a) (lower b) (lower c) (lower d) (lower e) (lower f) (lower g) (lower h)))
      ∙ sym (cond-true _ _ _ (eight (is_hex_digit a) (is_hex_digit b) (is_hex_digit c) (is_hex_digit d) (is_hex_digit e) (is_hex_digit f) (is_hex_digit g) (is_hex_digit h)
      ∙ and_from _ _ (and_from _ _ (a_byte_is a b p first) (a_byte_is c d q second)) (and_from _ _ (a_byte_is e f r third) (a_byte_is g h s fourth))))

-- ---- references

sign_not_word : (t : List ℕ) → (front t == 35) ≡ true → is_word t ≡ false
sign_not_word [] is = refl
sign_not_word (b ∷ t) is = and_right (nat_lt 0 (length (b ∷ t))) (list_all is_word_byte (b ∷ t)) (ap (λ x. x && list_all is_word_byte t) (ap is_word_byte (eqb-true b 35 is)))

small_digits : (digits : List ℕ) → are_digits digits ≡ true → digits_value 10 digits < 65536 → two_byte (decimal_number digits) ≡ Some (digits_value 10 digits)
small_digits digits are small =
    let v = digits_value 10 digits in
    let number : decimal_number digits ≡ Some v = cond-true (list_all is_ascii_digit digits && nat_lt v (2 ^ 64)) (Some v) None
    (and_from (list_all is_ascii_digit digits) (nat_lt v (2 ^ 64)) (and_parts (nat_lt 0 (length digits)) (list_all is_ascii_digit digits) are).1 (lt-ltb v (2 ^ 64) (omega arith))) in
    ap two_byte number ∙ cond-true _ _ _ (lt-ltb v 65536 small)

big_digits : (digits : List ℕ) → nat_lt (digits_value 10 digits) 65536 ≡ false → two_byte (decimal_number digits) ≡ None
big_digits digits big = ⊎_elim
    (λ (is : (list_all is_ascii_digit digits && nat_lt (digits_value 10 digits) (2 ^ 64)) ≡ true). ap two_byte (cond-true _ _ _ is) ∙ cond-false _ _ _ big)
    (λ (is : (list_all is_ascii_digit digits && nat_lt (digits_value 10 digits) (2 ^ 64)) ≡ false). ap two_byte (cond-false _ _ _ is))
    (cases_Bool (list_all is_ascii_digit digits && nat_lt (digits_value 10 digits) (2 ^ 64)))

pub unknown_place : (strings : List (List ℕ)) (text : List ℕ) (o : Option ℕ) (p : ℕ) → Ok p ≡ ok_or o BadName → length strings ≤ p → place_rule strings text (Ok o) ≡ Some BadName
unknown_place strings text None p is over = refl
unknown_place strings text (Some q) p is over = let same : p ≡ q = cc in cond-false _ _ _ (not_le (suc q) (length strings) (omega arith))

pub no_reference : (strings : List (List ℕ)) (text : List ℕ) → is_word text ≡ false → (front text == 35) ≡ false → Some BadLine ≡ reference_rule strings text
no_reference strings text word sign = sym (cond-false _ _ _ word ∙ cond-false _ _ _ (ap (λ b. b && are_digits (drop 1 text)) sign))

pub sign_alone : (strings : List (List ℕ)) (text : List ℕ) → is_word text ≡ false → are_digits (drop 1 text) ≡ false → Some BadLine ≡ reference_rule strings text
sign_alone strings text word none = sym (cond-false _ _ _ word ∙ cond-false _ _ _ (and_right (front text == 35) (are_digits (drop 1 text)) none))

module _ (strings : List (List ℕ)) (text : List ℕ) (few : length strings < 2 ^ 16) where
  pub sign_place : (front text == 35) ≡ true → are_digits (drop 1 text) ≡ true → place_rule strings text (Ok (two_byte (decimal_number (drop 1 text)))) ≡ reference_rule strings text
  sign_place sign are =
      let digits = drop 1 text in
      let v = digits_value 10 digits in
      let placed : placed_by strings text v ≡ reference_rule strings text =
      sym (cond-false _ _ _ (sign_not_word text sign) ∙ cond-true (front text == 35 && are_digits digits) _ _ (and_from (front text == 35) (are_digits digits) sign are)) in
      ⊎_elim
      (λ (small : nat_lt v 65536 ≡ true). ap (λ o. place_rule strings text (Ok o)) (small_digits digits are (ltb-true v 65536 small)) ∙ placed)
      (λ (big : nat_lt v 65536 ≡ false).
      let over : 65536 ≤ v = ltb-false v 65536 big in
      ap (λ o. place_rule strings text (Ok o)) (big_digits digits big) ∙ sym (cond-false _ _ _ (not_le (suc v) (length strings) (omega arith))) ∙ placed)
      (cases_Bool (nat_lt v 65536))

  pub word_place : is_word text ≡ true → place_rule strings text (Ok (two_byte (first_place strings text))) ≡ reference_rule strings text
  word_place is =
      let k = position_or_len (λ (s : List ℕ). bytes_eq text s) strings in
      ⊎_elim
      (λ (inside : nat_lt k (length strings) ≡ true).
      let found : first_place strings text ≡ Some k = cond-true _ _ _ inside in
      let small : two_byte (Some k) ≡ Some k = cond-true _ _ _ (lt-ltb k 65536 (omega (arith, ltb-true k (length strings) inside))) in
      ap (λ o. place_rule strings text (Ok (two_byte o))) found
      ∙ ap (λ o. place_rule strings text (Ok o)) small
      ∙ cond-true _ _ _ inside
      ∙ sym (cond-true _ _ _ is ∙ ap (named_by strings text) found))
      (λ (past : nat_lt k (length strings) ≡ false).
      let none : first_place strings text ≡ None = cond-false _ _ _ past in
      ap (λ o. place_rule strings text (Ok (two_byte o))) none ∙ sym (cond-true _ _ _ is ∙ ap (named_by strings text) none))
      (cases_Bool (nat_lt k (length strings)))

pub sign_shown : (text digits : List ℕ) → Some digits ≡ cond (front text == 35) (Some (drop 1 text)) None → ((front text == 35) ≡ true) × (digits ≡ drop 1 text)
sign_shown text digits is = ⊎_elim
    (λ (sign : (front text == 35) ≡ true). let same : Some digits ≡ Some (drop 1 text) = is ∙ cond-true _ _ _ sign in (sign, cc))
    (λ (other : (front text == 35) ≡ false). let no : Some digits ≡ None = is ∙ cond-false _ _ _ other in absurd cc)
    (cases_Bool (front text == 35))

pub no_sign : (text : List ℕ) → None ≡ cond (front text == 35) (Some (drop 1 text)) None → (front text == 35) ≡ false
no_sign text is = ⊎_elim
    (λ (sign : (front text == 35) ≡ true). let some : None ≡ Some (drop 1 text) = is ∙ cond-true _ _ _ sign in absurd cc)
    (λ other. other)
    (cases_Bool (front text == 35))
