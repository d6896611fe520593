-- Where a field ends, and that a text is cut into fields in one way.
use Rattle.std.proofs.Common.{◌≡◌, ℕ, zero, suc, ◌==◌, ◌||◌, not, Bool, true, false, List, [], ◌∷◌, ◌++◌, refl, sym, ap, ◌∙◌}
use Rattle.std.specs.List.{list_all}
use Rattle.std.proofs.lemmas.Bool.{and_parts, and_from, both_ways, eqb-true, not-true}

-- a space or a line's end
abbrev pub ends_field : ℕ → Bool
ends_field byte = byte == 32 || byte == 10

-- a text that begins behind a field
abbrev pub is_behind : List ℕ → Bool
is_behind [] = true
is_behind (b ∷ t) = ends_field b

-- what a field may hold
abbrev pub is_token : List ℕ → Bool
is_token t = list_all (λ b. not (ends_field b)) t

-- two things that were read are the same, and so is what follows them
pub record Same {X : Type 0} (x y : X) (r s : List ℕ) : Type 0 where
  pub first : x ≡ y
  pub rest : r ≡ s

goes_past : (c : ℕ) (u r s : List ℕ) → is_token (c ∷ u) ≡ true → is_behind r ≡ true → r ≡ c ∷ (u ++ s) → ⊥
goes_past c u r s token behind e = both_ways (ends_field c) (not-true _ (and_parts _ _ token).0) (sym (ap is_behind e) ∙ behind)

pub cut : (t u r s : List ℕ) → is_token t ≡ true → is_token u ≡ true → is_behind r ≡ true → is_behind s ≡ true → t ++ r ≡ u ++ s → Same t u r s
cut [] [] r s first second behind other e = record { first = refl; rest = e }
cut [] (c ∷ u) r s first second behind other e = absurd (goes_past c u r s second behind e)
cut (b ∷ t) [] r s first second behind other e = absurd (goes_past b t s r first other (sym e))
cut (b ∷ t) (c ∷ u) r s first second behind other e =
    let head : b ≡ c = cc in
    let tail : t ++ r ≡ u ++ s = cc in
    let more = cut t u r s (and_parts _ _ first).1 (and_parts _ _ second).1 behind other tail in
    record { first = cc (more.first); rest = more.rest }

-- what follows so many bytes, and the first byte of it
abbrev pub past : ℕ → List ℕ → List ℕ
past zero t = t
past (suc k) [] = []
past (suc k) (a ∷ t) = past k t

abbrev pub front : List ℕ → ℕ
front [] = 0
front (a ∷ t) = a

abbrev pub byte : ℕ → List ℕ → ℕ
byte k t = front (past k t)

pub same_front : (w r s : List ℕ) → w ++ r ≡ w ++ s → r ≡ s
same_front [] r s e = e
same_front (b ∷ w) r s e = same_front w r s (ap (past 1) e)

-- ---- bytes that may stand in a field

pub all_more : (p q : ℕ → Bool) → ((b : ℕ) → p b ≡ true → q b ≡ true) → (t : List ℕ) → list_all p t ≡ true → list_all q t ≡ true
all_more p q more [] is = refl
all_more p q more (b ∷ t) is = let parts = and_parts _ _ is in and_from _ _ (more b parts.0) (all_more p q more t parts.1)

other_byte : (p : ℕ → Bool) (b k : ℕ) → p k ≡ false → p b ≡ true → (b == k) ≡ false
other_byte p b k fails is = by (b == k) refl
  where
    by : (t : Bool) → (b == k) ≡ t → (b == k) ≡ false
    by false e = e
    by true e = absurd (both_ways (p b) (ap p (eqb-true b k e) ∙ fails) is)

plain_byte : (p : ℕ → Bool) → p 32 ≡ false → p 10 ≡ false → (b : ℕ) → p b ≡ true → not (ends_field b) ≡ true
plain_byte p no_space no_end b is = ap (λ t. not (t || (b == 10))) (other_byte p b 32 no_space is) ∙ ap not (other_byte p b 10 no_end is)

pub token_of : (p : ℕ → Bool) → p 32 ≡ false → p 10 ≡ false → (t : List ℕ) → list_all p t ≡ true → is_token t ≡ true
token_of p no_space no_end t is = all_more p (λ b. not (ends_field b)) (plain_byte p no_space no_end) t is
