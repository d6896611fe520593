-- The first of some names, with case ignored.
use Rattle.std.proofs.Common.{◌≡◌, ℕ, zero, suc, ◌+◌, ◌%◌, ◌<◌, Bool, true, false, not, cond, ltb, List, [], ◌∷◌, ◌++◌, map, length, Option, None, Some, position, refl, sym, ap, subst, ◌∙◌, arith}
use Rattle.std.specs.Prelude.{slice_get, ◌^◌, nat_lt}
use Rattle.std.specs.Char.{to_ascii_lowercase}
use Rattle.std.specs.Cmp.Lexicographic.{bytes_decides}
use Rattle.std.specs.Fmt.{decimal}
use Rattle.std.specs.List.{position_or_len}
use Rattle.std.specs.Option.{option_map}
use Rattle.std.specs.Str.{str_eq_ignore_ascii_case}
use Rattle.std.proofs.lemmas.Bool.{le-ltb, lt-ltb, ltb-true, ltb-false}
use Rattle.std.proofs.lemmas.Fmt.{decimal_by_steps, decimal_injective}
use Rattle.std.proofs.lemmas.List.{map-append}
use Rattle.std.proofs.lemmas.Option.{same_Some}
use Rattle.code_emit.specs.Strings.{local_name}

pub falsely : (t : Bool) → (t ≡ true → ⊥) → t ≡ false
falsely true h = absurd (h refl)
falsely false h = refl

-- ---- the first that passes a test
position-here : {X : Type 0} (p : X → Bool) (x : X) (xs : List X) → p x ≡ true → position p (x ∷ xs) ≡ Some 0
position-here p x xs h =
    subst (λ (b : Bool). cond (ltb (cond (not b) (1 + position_or_len p xs) 0) (length (x ∷ xs))) (Some (cond (not b) (1 + position_or_len p xs) 0)) None ≡ Some 0) (sym h)
    (ap (λ (b : Bool). cond b (Some 0) None) (lt-ltb 0 (length (x ∷ xs)) (omega arith)))

one_later : (k n : ℕ) (b : Bool) → ltb k n ≡ b → cond (ltb (1 + k) (suc n)) (Some (1 + k)) None ≡ option_map (λ m. suc m) (cond b (Some k) None)
one_later k n true e =
    let less : k < n = ltb-true k n e in
    ap (λ (b : Bool). cond b (Some (1 + k)) None) (lt-ltb (1 + k) (suc n) (omega (arith, less))) ∙ ap (λ m. Some m) (omega arith)
one_later k n false e =
    let more = ltb-false k n e in
    ap (λ (b : Bool). cond b (Some (1 + k)) None) (le-ltb (1 + k) (suc n) (omega (arith, more)))

position-later : {X : Type 0} (p : X → Bool) (x : X) (xs : List X) → p x ≡ false → position p (x ∷ xs) ≡ option_map (λ m. suc m) (position p xs)
position-later p x xs h =
    subst (λ (b : Bool). cond (ltb (cond (not b) (1 + position_or_len p xs) 0) (length (x ∷ xs))) (Some (cond (not b) (1 + position_or_len p xs) 0)) None ≡ option_map (λ m. suc m) (position p xs)) (sym h)
    (one_later (position_or_len p xs) (length xs) (ltb (position_or_len p xs) (length xs)) refl)

pub position_none : {X : Type 0} (p : X → Bool) (xs : List X) → ((i : ℕ) (x : X) → slice_get xs i ≡ Some x → p x ≡ false) → position p xs ≡ None
position_none p [] none = refl
position_none p (x ∷ xs) none =
    position-later p x xs (none 0 x refl) ∙ ap (λ (o : Option ℕ). option_map (λ m. suc m) o) (position_none p xs (λ i y e. none (suc i) y e))

pub position_first : {X : Type 0} (p : X → Bool) (xs : List X) (n : ℕ) (x : X) → slice_get xs n ≡ Some x → p x ≡ true → ((i : ℕ) (y : X) → slice_get xs i ≡ Some y → p y ≡ true → n ≡ i) → position p xs ≡ Some n
position_first p [] n x e h only = absurd (cc)
position_first p (y ∷ xs) zero x e h only = position-here p y xs (ap p (same_Some y x e) ∙ h)
position_first p (y ∷ xs) (suc n) x e h only =
    position-later p y xs (falsely (p y) (λ t. let same : suc n ≡ 0 = only 0 y refl t in omega (arith, same)))
    ∙ ap (λ (o : Option ℕ). option_map (λ m. suc m) o) (position_first p xs n x e h (λ i z f g. let same : suc n ≡ suc i = only (suc i) z f g in omega (arith, same)))

-- ---- names with case ignored
pub same-refl : (name : List ℕ) → str_eq_ignore_ascii_case name name ≡ true
same-refl name = (bytes_decides (map to_ascii_lowercase name) (map to_ascii_lowercase name)).1 refl

digit_stays : (n : ℕ) → n < 10 → to_ascii_lowercase (48 + n) ≡ 48 + n
digit_stays n small = ap (λ (b : Bool). cond b (48 + n) (cond (nat_lt (48 + n) 91) (48 + n + 32) (48 + n))) (lt-ltb (48 + n) 65 (omega arith))

decimal_stays : (n : ℕ) → n < 2 ^ 64 → map to_ascii_lowercase (decimal n) ≡ decimal n
decimal_stays n small =
    decimal_by_steps (λ _ ds. map to_ascii_lowercase ds ≡ ds) (λ m h. ap (λ c. c ∷ []) (digit_stays m h))
    (λ m ds h e. map-append to_ascii_lowercase ds ((48 + m % 10) ∷ []) ∙ ap (λ l. l ++ (to_ascii_lowercase (48 + m % 10) ∷ [])) e ∙ ap (λ c. ds ++ (c ∷ [])) (digit_stays (m % 10) (omega arith))) n small

-- numbered names differ, with case ignored
pub local_names_differ : (m n : ℕ) → m < 2 ^ 64 → n < 2 ^ 64 → str_eq_ignore_ascii_case (local_name m) (local_name n) ≡ true → m ≡ n
local_names_differ m n few also h =
    let same : map to_ascii_lowercase (local_name m) ≡ map to_ascii_lowercase (local_name n) = (bytes_decides (map to_ascii_lowercase (local_name m)) (map to_ascii_lowercase (local_name n))).0 h in
    let digits : map to_ascii_lowercase (decimal m) ≡ map to_ascii_lowercase (decimal n) = cc in
    decimal_injective m n few also (sym (decimal_stays m few) ∙ digits ∙ decimal_stays n also)
