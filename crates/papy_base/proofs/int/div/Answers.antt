use Rattle.std.proofs.Common.{arith, ◌≡◌, ◌≤◌, ◌/◌, ◌⊎◌, inl, inr, ℕ, suc, ℤ, pos, negsuc, neg_ℤ, int_div, FitsSigned, to_z, of_z, refl, sym, ◌∙◌}
use Rattle.std.specs.Int.{int_wrap, int_wrapping_div, w32}
use Rattle.std.proofs.Math.Nat.{div-le_self}
use Rattle.std.proofs.lemmas.Int.{int_wrap_fits, to_z-of_z, ints}
use Rattle.papy_base.proofs.int.div.Goals as goal

-- one past the greatest number wraps to the least
greatest_wraps : to_z w32 (of_z w32 (pos 2147483648)) ≡ int_wrap w32 (pos 2147483648)
unfolding int_wrap
greatest_wraps = refl

-- the bits of a number that fits, or of the one just past the greatest, read back
read_back : (z : ℤ) → FitsSigned w32 z ⊎ (z ≡ pos 2147483648) → to_z w32 (of_z w32 z) ≡ int_wrap w32 z
read_back z (inl fits) = to_z-of_z w32 z fits ∙ sym (int_wrap_fits w32 z fits)
read_back z (inr e) = rw e greatest_wraps

fits_or_greatest : (q : ℕ) → q ≤ 2147483648 → FitsSigned w32 (pos q) ⊎ (pos q ≡ pos 2147483648)
fits_or_greatest q h = grind (arith, ints)

fits_below : (q : ℕ) → q ≤ 2147483648 → FitsSigned w32 (neg_ℤ (pos q))
fits_below q h = omega (arith, ints)

-- a quotient is no larger than its dividend
quotient_range : (a b : ℤ) → FitsSigned w32 a → FitsSigned w32 (int_div a b) ⊎ (int_div a b ≡ pos 2147483648)
quotient_range (pos m) (pos n) fits = fits_or_greatest (m / n) (omega (arith, ints, div-le_self m n))
quotient_range (pos m) (negsuc n) fits = inl (fits_below (m / suc n) (omega (arith, ints, div-le_self m (suc n))))
quotient_range (negsuc m) (pos n) fits = inl (fits_below (suc m / n) (omega (arith, ints, div-le_self (suc m) n)))
quotient_range (negsuc m) (negsuc n) fits = fits_or_greatest (suc m / suc n) (omega (arith, ints, div-le_self (suc m) (suc n)))

-- the code's quotient, whose operands are read from their bits
quotient_is : (a b r : ℤ) → FitsSigned w32 a → FitsSigned w32 b → FitsSigned w32 r →
    r ≡ int_wrapping_div w32 (to_z w32 (of_z w32 a)) (to_z w32 (of_z w32 b)) → to_z w32 (of_z w32 r) ≡ int_wrap w32 (int_div a b)
quotient_is a b r a_fits b_fits r_fits e =
    let exact = rw (to_z-of_z w32 a a_fits, to_z-of_z w32 b b_fits) at e in
    to_z-of_z w32 r r_fits ∙ exact ∙ read_back (int_div a b) (quotient_range a b a_fits)

pub returns : goal.returns
returns c = quotient_is c.args.a c.args.b _ c.ranges.a c.ranges.b (omega (arith, ints)) c.wrapping_div.ensures
