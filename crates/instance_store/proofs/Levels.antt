-- Where a script stands among those of an instance, as its depth tells.
use Rattle.std.proofs.Common.{◌≡◌, refl, ℕ, suc, ◌-◌, ◌<◌, ◌≤◌, Bool, true, false, List, [], ◌∷◌, length, zero, ap, sym, ◌∙◌, nat_eq, arith}
use Rattle.std.proofs.lemmas.Bool.{eqb-true, eq-eqb}
use Rattle.std.proofs.lemmas.List.Sums.{position_or_len_is}
use Rattle.std.specs.Prelude.{Some, None, slice_get, slice_index_or}
use Rattle.std.specs.List.{position_or_len}
use Rattle.instance_store.specs.Depths.{IsLevel}
use Rattle.instance_store.specs.Instances.{ScriptValues, place_of, no_script}

abbrev pub number_at : List ScriptValues → ℕ → ℕ
number_at scripts k = (slice_index_or scripts k no_script).script

-- what stands for a place that isn't there doesn't matter
pub number_in : (scripts : List ScriptValues) (k : ℕ) (d : ScriptValues) → k < length scripts → (slice_index_or scripts k d).script ≡ number_at scripts k
number_in [] k d within = absurd (omega (arith, within))
number_in (part ∷ rest) zero d within = refl
number_in (part ∷ rest) (suc k) d within = number_in rest k d (omega (arith, within))

is_false : (b : Bool) → (b ≡ true → ⊥) → b ≡ false
is_false true h = absurd (h refl)
is_false false h = refl

differ : (n m : ℕ) → (n ≡ m → ⊥) → nat_eq n m ≡ false
differ n m h = is_false (nat_eq n m) (λ same. h (eqb-true n m same))

-- a place at which a script stands is told by its depth
told : (depths : List ℕ) (scripts : List ScriptValues) (s k : ℕ) → IsLevel depths scripts → k < length scripts → number_at scripts k ≡ s → slice_get depths s ≡ Some (length scripts - suc k)
told depths scripts s k level within same =
    ap (λ n. slice_get depths n) (sym same) ∙ level k within

pub nowhere : (scripts : List ScriptValues) (s : ℕ) → ((k : ℕ) → k < length scripts → number_at scripts k ≡ s → ⊥) → place_of scripts s ≡ None
nowhere scripts s others =
    let end : position_or_len (λ (part : ScriptValues). nat_eq part.script s) scripts ≡ length scripts = position_or_len_is (λ part. nat_eq part.script s) scripts (length scripts) no_script (omega arith) (λ k within. differ (number_at scripts k) s (others k within)) (λ h. absurd (omega (arith, h))) in
    grind (arith, end)

pub unknown : (depths : List ℕ) (scripts : List ScriptValues) (s : ℕ) → IsLevel depths scripts → slice_get depths s ≡ None → place_of scripts s ≡ None
unknown depths scripts s level none =
    nowhere scripts s (λ k within same. let e : Some (length scripts - suc k) ≡ None = sym (told depths scripts s k level within same) ∙ none in grind (arith, e))

-- one that stands deeper than the instance's own script
pub too_deep : (depths : List ℕ) (scripts : List ScriptValues) (s d : ℕ) → IsLevel depths scripts → slice_get depths s ≡ Some d → length scripts ≤ d → place_of scripts s ≡ None
too_deep depths scripts s d level known deep =
    nowhere scripts s (λ k within same.
    let at : Some d ≡ Some (length scripts - suc k) = sym known ∙ told depths scripts s k level within same in
    grind (arith, at, deep, within))

-- where another script stands at that depth
pub other : (depths : List ℕ) (scripts : List ScriptValues) (s d : ℕ) → IsLevel depths scripts → slice_get depths s ≡ Some d → d < length scripts → (number_at scripts (length scripts - d - 1) ≡ s → ⊥) → place_of scripts s ≡ None
other depths scripts s d level known within differs =
    nowhere scripts s (λ k below same.
    let at : Some d ≡ Some (length scripts - suc k) = sym known ∙ told depths scripts s k level below same in
    let place : k ≡ length scripts - d - 1 = grind (arith, at, below, within) in
    differs (ap (λ n. number_at scripts n) (sym place) ∙ same))

pub found : (depths : List ℕ) (scripts : List ScriptValues) (s d : ℕ) → IsLevel depths scripts → slice_get depths s ≡ Some d → d < length scripts → number_at scripts (length scripts - d - 1) ≡ s → place_of scripts s ≡ Some (length scripts - d - 1)
found depths scripts s d level known within here =
    let place = length scripts - d - 1 in
    let small : place < length scripts = omega (arith, within) in
    let first : position_or_len (λ (part : ScriptValues). nat_eq part.script s) scripts ≡ place = position_or_len_is (λ part. nat_eq part.script s) scripts place no_script (omega (arith, small)) (λ k before. differ (number_at scripts k) s (λ same.
    let at : Some d ≡ Some (length scripts - suc k) = sym known ∙ told depths scripts s k level (omega (arith, before, small)) same in
    let e : k ≡ place = grind (arith, at, before, within) in
    omega (arith, e, before))) (λ h. eq-eqb (number_at scripts place) s here) in
    grind (arith, first, small)
