-- Names with their counts.
use Rattle.std.proofs.Common.{◌≡◌, ℕ, zero, suc, ◌+◌, ◌<◌, List, [], ◌∷◌, length, get_or, map, refl, ap, ◌∙◌, arith}
use Rattle.std.specs.Prelude.{slice_index, slice_set}
use Rattle.run_replay.specs.Book.{added}

pub count_of : {X : Type 0} (items : List (X × ℕ)) (at : ℕ) (entry : X × ℕ) → at < length items → entry ≡ get_or items at entry → entry.1 ≡ slice_index (map (λ p. p.1) items) at
count_of [] at entry inside is = absurd (omega arith)
count_of (x ∷ items) zero entry inside is = ap (λ p. p.1) is
count_of (x ∷ items) (suc at) entry inside is = count_of items at entry (omega arith) is

pub names_stay : {X : Type 0} (items : List (X × ℕ)) (at : ℕ) (entry : X × ℕ) (count : ℕ) → entry ≡ get_or items at entry → map (λ p. p.0) (slice_set items at (entry.0, count)) ≡ map (λ p. p.0) items
names_stay [] at entry count is = refl
names_stay {X = X} (x ∷ items) zero entry count is = ap (λ (n : X). n ∷ map (λ p. p.0) items) (ap (λ p. p.0) is)
names_stay {X = X} (x ∷ items) (suc at) entry count is = ap (λ (ns : List X). x.0 ∷ ns) (names_stay items at entry count is)

pub count_set : {X : Type 0} (items : List (X × ℕ)) (at : ℕ) (name : X) (count : ℕ) → map (λ p. p.1) (slice_set items at (name, count)) ≡ slice_set (map (λ p. p.1) items) at count
count_set [] at name count = refl
count_set (x ∷ items) zero name count = refl
count_set (x ∷ items) (suc at) name count = ap (λ (ns : List ℕ). x.1 ∷ ns) (count_set items at name count)

-- a count that grew
pub count_grows : {X : Type 0} (items : List (X × ℕ)) (at instance : ℕ) (entry : X × ℕ) (more amount : ℕ) → at < length items → entry ≡ get_or items at entry → at ≡ instance → more ≡ amount → map (λ p. p.1) (slice_set items at (entry.0, entry.1 + more)) ≡ added (map (λ p. p.1) items) instance amount
count_grows items at instance entry more amount inside is same_at same =
    let counts = map (λ p. p.1) items in
    count_set items at entry.0 (entry.1 + more)
    ∙ ap (λ (n : ℕ). slice_set counts at (n + more)) (count_of items at entry inside is)
    ∙ ap (λ (n : ℕ). slice_set counts at (slice_index counts at + n)) same
    ∙ ap (λ (n : ℕ). added counts n amount) same_at
