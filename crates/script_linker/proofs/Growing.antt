-- A list that grows beside another one.
use Rattle.std.proofs.Common.{ℕ, ◌≡◌, ◌+◌, ◌<◌, ◌≤◌, List, [], ◌∷◌, ◌++◌, length, get_or, sym, ap, subst, ◌∙◌, ⊎_elim, arith}
use Rattle.std.proofs.Math.Seq.{get_or-append_seam}
use Rattle.std.proofs.lemmas.Bool.{cases_lt}
use Rattle.std.proofs.lemmas.List.{get_or_append_left, get_or_default}

-- a fact of each thing and what stands at its place in a second list, with one more of each
pub each-push : {A B : Type 0} (P : A → B → Type 0) (xs : List A) (ys : List B) (i : ℕ) (x : A) (y : B) → length ys ≡ i → i < length xs → x ≡ get_or xs i x → P x y
    → ((n : ℕ) (a : A) (b : B) → n < i → P (get_or xs n a) (get_or ys n b)) → (n : ℕ) (a : A) (b : B) → n < i + 1 → P (get_or xs n a) (get_or (ys ++ y ∷ []) n b)
each-push P xs ys i x y count lt is here below n a b h =
    ⊎_elim
    (λ (l : n < i).
    let short : n < length ys = omega arith in
    subst (λ z. P (get_or xs n a) z) (sym (get_or_append_left ys (y ∷ []) b n short)) (below n a b l))
    (λ (g : i ≤ n).
    let same : n ≡ i = omega arith in
    let first : get_or xs n a ≡ x = ap (λ k. get_or xs k a) same ∙ get_or_default xs i a x lt ∙ sym is in
    let last : get_or (ys ++ y ∷ []) n b ≡ y = ap (λ k. get_or (ys ++ y ∷ []) k b) (same ∙ sym count) ∙ get_or-append_seam ys y [] b in
    subst (λ z. P z (get_or (ys ++ y ∷ []) n b)) (sym first) (subst (λ z. P x z) (sym last) here))
    (cases_lt n i)
