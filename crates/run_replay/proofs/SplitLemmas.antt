-- Bytes up to a sign, and what stands behind them.
use Rattle.std.proofs.Common.{◌≡◌, ◌≢◌, ℕ, zero, suc, ◌<◌, ◌≤◌, ◌^◌, Bool, true, false, List, [], ◌∷◌, ◌++◌, length, take, drop, length-drop, refl, sym, ap, subst, ◌∙◌, arith}
use Rattle.std.specs.Prelude.{◌==◌}
use Rattle.std.specs.Char.{is_ascii_digit}
use Rattle.std.specs.Fmt.{decimal}
use Rattle.std.specs.List.{prefix_len, list_all}
use Rattle.std.proofs.lemmas.Bool.{false≢true, cond-true, cond-false, and_parts, eqb-true, not-true, not-false, eqb-false}
use Rattle.std.proofs.lemmas.Fmt.{digits_decimal}
use Rattle.std.proofs.lemmas.List.{take-append-drop, take_all}
use Rattle.run_replay.specs.Lines.{Ends, Lacks, is_not}
use Rattle.papy_base.proofs.DigitLemmas.{digit_numerals}

-- there is one place where a sign stands first
pub one_split : (sign : ℕ) (p q a b : List ℕ) → Lacks sign p → Lacks sign q → Ends sign a → Ends sign b → p ++ a ≡ q ++ b → (p ≡ q) × (a ≡ b)
one_split sign [] [] a b lp lq ea eb e = (refl, e)
one_split sign [] (y ∷ q) [] b lp lq ea eb e = absurd (cc)
one_split sign [] (y ∷ q) (x ∷ a) b lp lq ea eb e = let same : x ≡ y = cc in absurd (lq.0 (sym same ∙ ea))
one_split sign (x ∷ p) [] a [] lp lq ea eb e = absurd (cc)
one_split sign (x ∷ p) [] a (y ∷ b) lp lq ea eb e = let same : x ≡ y = cc in absurd (lp.0 (same ∙ eb))
one_split sign (x ∷ p) (y ∷ q) a b lp lq ea eb e =
    let heads : x ≡ y = cc in
    let tails : p ++ a ≡ q ++ b = cc in
    let rest = one_split sign p q a b lp.1 lq.1 ea eb tails in
    let fronts : p ≡ q = rest.0 in
    (cc, rest.1)

-- what passes a test that the sign fails
pub lacks_all : (test : ℕ → Bool) (sign : ℕ) (ds : List ℕ) → test sign ≡ false → list_all test ds ≡ true → Lacks sign ds
lacks_all test sign [] other all = tt
lacks_all test sign (d ∷ ds) other all =
    let parts = and_parts _ _ all in
    (λ same. false≢true (sym other ∙ ap test (sym same) ∙ parts.0), lacks_all test sign ds other parts.1)

pub number_lacks : (sign n : ℕ) → is_ascii_digit sign ≡ false → n < 2 ^ 32 → Lacks sign (decimal n)
number_lacks sign n other small = lacks_all is_ascii_digit sign (decimal n) other (digits_decimal digit_numerals n (omega arith))

pub lacks_both : (sign : ℕ) (p q : List ℕ) → Lacks sign p → Lacks sign q → Lacks sign (p ++ q)
lacks_both sign [] q lp lq = lq
lacks_both sign (b ∷ p) q lp lq = (lp.0, lacks_both sign p q lp.1 lq)

pub stands_there : (sign : ℕ) (p q : List ℕ) → Lacks sign (p ++ sign ∷ q) → ⊥
stands_there sign [] q lacks = lacks.0 refl
stands_there sign (b ∷ p) q lacks = stands_there sign p q lacks.1

-- bytes up to a sign, and what stands behind them
pub record IsCut (sign : ℕ) (word rest : List ℕ) : Type 0 where
  pub lacks : Lacks sign word
  pub ends : Ends sign rest

cut_more : (sign b : ℕ) (bytes : List ℕ) (t : Bool) → is_not sign b ≡ t → IsCut sign (take (prefix_len (is_not sign) bytes) bytes) (drop (prefix_len (is_not sign) bytes) bytes) → IsCut sign (take (prefix_len (is_not sign) (b ∷ bytes)) (b ∷ bytes)) (drop (prefix_len (is_not sign) (b ∷ bytes)) (b ∷ bytes))
cut_more sign b bytes true e inner =
    let more : prefix_len (is_not sign) (b ∷ bytes) ≡ suc (prefix_len (is_not sign) bytes) = cond-true _ _ _ e ∙ omega arith in
    subst (λ (n : ℕ). IsCut sign (take n (b ∷ bytes)) (drop n (b ∷ bytes))) (sym more)
    (record { lacks = (eqb-false b sign (not-true (b == sign) e), inner.lacks); ends = inner.ends })
cut_more sign b bytes false e inner =
    let none : prefix_len (is_not sign) (b ∷ bytes) ≡ zero = cond-false _ _ _ e in
    subst (λ (n : ℕ). IsCut sign (take n (b ∷ bytes)) (drop n (b ∷ bytes))) (sym none)
    (record { lacks = tt; ends = eqb-true b sign (not-false (b == sign) e) })

pub cut_here : (sign : ℕ) (bytes : List ℕ) → IsCut sign (take (prefix_len (is_not sign) bytes) bytes) (drop (prefix_len (is_not sign) bytes) bytes)
cut_here sign [] = record { lacks = tt; ends = tt }
cut_here sign (b ∷ bytes) = cut_more sign b bytes (is_not sign b) refl (cut_here sign bytes)

-- a number is read where it stands
pub number_found : (bytes field digits after : List ℕ) (len n : ℕ) → bytes ≡ 32 ∷ field → len ≡ prefix_len (is_not 32) field → digits ≡ take len field → after ≡ drop len field → digits ≡ decimal n → n < 2 ^ 32 → (bytes ≡ 32 ∷ decimal n ++ after) × (n < 2 ^ 32) × Ends 32 after
number_found bytes field digits after len n is run front back same small =
    let whole : digits ++ after ≡ field = ap (λ (d : List ℕ). d ++ after) front ∙ ap (λ (a : List ℕ). take len field ++ a) back ∙ take-append-drop len field in
    let spelled : bytes ≡ 32 ∷ decimal n ++ after = is ∙ ap (λ (f : List ℕ). 32 ∷ f) (sym whole) ∙ ap (λ (d : List ℕ). 32 ∷ d ++ after) same in
    let cut = cut_here 32 field in
    let ends : Ends 32 after = subst (λ (a : List ℕ). Ends 32 a) (sym (back ∙ ap (λ (k : ℕ). drop k field) run)) cut.ends in
    (spelled, small, ends)

-- where no number is read, none stands
pub no_number : (bytes field digits after : List ℕ) (len : ℕ) → bytes ≡ 32 ∷ field → len ≡ prefix_len (is_not 32) field → digits ≡ take len field → after ≡ drop len field → ((n : ℕ) → n < 2 ^ 32 → digits ≢ decimal n)
    → (n : ℕ) (other : List ℕ) → n < 2 ^ 32 → Ends 32 other → bytes ≢ 32 ∷ decimal n ++ other
no_number bytes field digits after len is run front back none n other small ends same =
    let inner : field ≡ decimal n ++ other = cc in
    let cut = cut_here 32 field in
    let k = prefix_len (is_not 32) field in
    let split = one_split 32 (take k field) (decimal n) (drop k field) other cut.lacks (number_lacks 32 n refl small) cut.ends ends (take-append-drop k field ∙ inner) in
    none n small (front ∙ ap (λ (m : ℕ). take m field) run ∙ split.0)

-- a line up to its end
pub line_cut : (bytes text rest behind : List ℕ) (at : ℕ) → at ≡ prefix_len (is_not 10) bytes → at < length bytes → text ≡ take at bytes → rest ≡ drop at bytes → behind ≡ drop 1 rest → (bytes ≡ text ++ 10 ∷ behind) × Lacks 10 text
line_cut bytes text rest behind at run inside front back next =
    let cut = subst (λ (n : ℕ). IsCut 10 (take n bytes) (drop n bytes)) (sym run) (cut_here 10 bytes) in
    let ends : Ends 10 rest = subst (λ (r : List ℕ). Ends 10 r) (sym back) cut.ends in
    let some : 0 < length rest = omega (arith, ap length back, length-drop at bytes) in
    let whole : bytes ≡ text ++ rest = sym (take-append-drop at bytes) ∙ ap (λ (t : List ℕ). t ++ drop at bytes) (sym front) ∙ ap (λ (r : List ℕ). text ++ r) (sym back) in
    (whole ∙ ap (λ (r : List ℕ). text ++ r) (headed rest behind some ends next), subst (λ (t : List ℕ). Lacks 10 t) (sym front) cut.lacks)
  where
    headed : (rest behind : List ℕ) → 0 < length rest → Ends 10 rest → behind ≡ drop 1 rest → rest ≡ 10 ∷ behind
    headed [] behind some ends next = absurd (omega arith)
    headed (b ∷ bytes) behind some ends next = ap (λ (x : ℕ). x ∷ bytes) ends ∙ ap (λ (r : List ℕ). 10 ∷ r) (sym next)

-- no line's end is left
pub no_cut : (bytes : List ℕ) (at : ℕ) → at ≡ prefix_len (is_not 10) bytes → length bytes ≤ at → Lacks 10 bytes
no_cut bytes at run past =
    let cut = subst (λ (n : ℕ). IsCut 10 (take n bytes) (drop n bytes)) (sym run) (cut_here 10 bytes) in
    subst (λ (b : List ℕ). Lacks 10 b) (take_all at bytes past) cut.lacks
