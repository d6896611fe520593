-- Fields that are in their one spelling.
use Rattle.std.proofs.Common.{◌≡◌, ℕ, zero, suc, ℤ, pos, neg_ℤ, ◌<◌, ◌==◌, ◌&&◌, not, cond, Bool, true, false, List, [], ◌∷◌, length, get_or, Some, refl, sym, ap, ◌∙◌, arith}
use Rattle.std.specs.Prelude.{IsTrue}
use Rattle.std.specs.Fmt.{decimal, signed_decimal}
use Rattle.std.specs.List.{flat_map}
use Rattle.std.proofs.lemmas.Bool.{and_parts, not-true, ltb-true, false≢true}
use Rattle.papy_base.specs.Digits.{decimal_number, has_leading_zero}
use Rattle.papy_base.proofs.DigitLemmas.{canonical_digits}
use Rattle.pex_listing.specs.Lines.{two_digits}
use Rattle.pex_listing.specs.Numbers.{are_digits}

digits_spelled : (digits : List ℕ) (n : ℕ) → are_digits digits ≡ true → decimal_number digits ≡ Some n → not (has_leading_zero digits) ≡ true → digits ≡ decimal n
digits_spelled digits n are number plain =
    let some : 0 < length digits = ltb-true 0 (length digits) (and_parts _ _ are).0 in
    canonical_digits digits n some number (not-true _ plain)

-- a number without sign
pub number_spelled : (text digits : List ℕ) (is_negative : Bool) (n : ℕ) → text ≡ cond is_negative (45 ∷ digits) digits → are_digits digits ≡ true → decimal_number digits ≡ Some n
    → (not is_negative && not (has_leading_zero digits)) ≡ true → text ≡ decimal n
number_spelled text digits true n signed are number canonical = absurd (false≢true canonical)
number_spelled text digits false n signed are number canonical = signed ∙ digits_spelled digits n are number canonical

-- a number with a sign
pub signed_spelled : (text digits : List ℕ) (is_negative : Bool) (m : ℕ) (n : ℤ) → text ≡ cond is_negative (45 ∷ digits) digits → are_digits digits ≡ true → decimal_number digits ≡ Some m
    → (not (is_negative && (m == 0)) && not (has_leading_zero digits)) ≡ true → n ≡ cond is_negative (neg_ℤ (pos m)) (pos m) → text ≡ signed_decimal n
signed_spelled text digits false m n signed are number canonical is = signed ∙ (digits_spelled digits m are number canonical ∙ ap signed_decimal (sym is))
signed_spelled text digits true zero n signed are number canonical is = absurd (false≢true canonical)
signed_spelled text digits true (suc m) n signed are number canonical is = signed ∙ (ap (λ d. 45 ∷ d) (digits_spelled digits (suc m) are number (and_parts _ _ canonical).1) ∙ ap signed_decimal (sym is))

-- eight hexadecimal digits, two for each byte
pub eight_spelled : (p q r s : ℕ × Bool) (a b c d e f g h : ℕ)
    → (IsTrue p.1 → two_digits p.0 ≡ a ∷ b ∷ []) → (IsTrue q.1 → two_digits q.0 ≡ c ∷ d ∷ []) → (IsTrue r.1 → two_digits r.0 ≡ e ∷ f ∷ []) → (IsTrue s.1 → two_digits s.0 ≡ g ∷ h ∷ [])
    → IsTrue ((p.1 && q.1) && (r.1 && s.1)) → flat_map two_digits (p.0 ∷ q.0 ∷ r.0 ∷ s.0 ∷ []) ≡ a ∷ b ∷ c ∷ d ∷ e ∷ f ∷ g ∷ h ∷ []
eight_spelled p q r s a b c d e f g h first second third fourth is =
    let halves = and_parts (p.1 && q.1) (r.1 && s.1) is in
    let front = and_parts p.1 q.1 halves.0 in
    let back = and_parts r.1 s.1 halves.1 in
    let w : two_digits p.0 ≡ a ∷ b ∷ [] = first front.0 in
    let x : two_digits q.0 ≡ c ∷ d ∷ [] = second front.1 in
    let y : two_digits r.0 ≡ e ∷ f ∷ [] = third back.0 in
    let z : two_digits s.0 ≡ g ∷ h ∷ [] = fourth back.1 in
    cc

-- a list of eight
pub eight_of : (xs : List ℕ) → length xs ≡ 8 → get_or xs 0 0 ∷ get_or xs 1 0 ∷ get_or xs 2 0 ∷ get_or xs 3 0 ∷ get_or xs 4 0 ∷ get_or xs 5 0 ∷ get_or xs 6 0 ∷ get_or xs 7 0 ∷ [] ≡ xs
eight_of [] long = absurd (omega arith)
eight_of (a ∷ []) long = absurd (omega arith)
eight_of (a ∷ b ∷ []) long = absurd (omega arith)
eight_of (a ∷ b ∷ c ∷ []) long = absurd (omega arith)
eight_of (a ∷ b ∷ c ∷ d ∷ []) long = absurd (omega arith)
eight_of (a ∷ b ∷ c ∷ d ∷ e ∷ []) long = absurd (omega arith)
eight_of (a ∷ b ∷ c ∷ d ∷ e ∷ f ∷ []) long = absurd (omega arith)
eight_of (a ∷ b ∷ c ∷ d ∷ e ∷ f ∷ g ∷ []) long = absurd (omega arith)
eight_of (a ∷ b ∷ c ∷ d ∷ e ∷ f ∷ g ∷ h ∷ []) long = refl
eight_of (a ∷ b ∷ c ∷ d ∷ e ∷ f ∷ g ∷ h ∷ i ∷ rest) long = absurd (omega arith)
