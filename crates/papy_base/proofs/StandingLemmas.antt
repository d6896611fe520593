-- What the list of an object and those above it says of what stands above the object and of what is nearest to it.
use Rattle.std.proofs.Common.{ℕ, zero, suc, ◌≡◌, ◌-◌, ◌<◌, ◌||◌, true, false, List, [], ◌∷◌, length, get_or, Option, Some, None, refl, sym, ap, subst, ◌∙◌, ⊎_elim, arith}
use Rattle.std.specs.Prelude.{◌==◌}
use Rattle.std.specs.List.{list_any}
use Rattle.std.proofs.lemmas.Bool.{cases_Bool, eqb-true, false≢true}
use Rattle.papy_base.specs.Lineage.{lineage, parent_of, upward, stands_below, StandsAbove, Nearest, itself, here, further}

pub upward-none : (left : ℕ) (parents : List (Option ℕ)) → upward left parents None ≡ []
unfolding upward
upward-none zero parents = refl
upward-none (suc left) parents = refl

pub upward-end : (parents : List (Option ℕ)) (next : Option ℕ) → upward 0 parents next ≡ []
unfolding upward
upward-end parents next = refl

pub upward-some : (left : ℕ) (parents : List (Option ℕ)) (n : ℕ) → 0 < left → upward left parents (Some n) ≡ n ∷ upward (left - 1) parents (parent_of parents n)
unfolding upward
upward-some zero parents n some = absurd (omega arith)
upward-some (suc left) parents n some = let e : suc left - 1 ≡ left = omega arith in rw e

module _ (parents : List (Option ℕ)) (above : ℕ) where
  -- one object is among those from another upward
  pub IsAmong : ℕ → Option ℕ → Type 0
  IsAmong left next = list_any (λ other. other == above) (upward left parents next) ≡ true

  no_others : (left : ℕ) → IsAmong left None → ⊥
  unfolding IsAmong
  no_others left h = false≢true (sym (ap (list_any (λ other. other == above)) (upward-none left parents)) ∙ h)

  step_above : (n left : ℕ) (next : Option ℕ) → parent_of parents n ≡ next → IsAmong left next → ((p : ℕ) → IsAmong left (Some p) → StandsAbove parents p above) → StandsAbove parents n above
  step_above n left None is h more = absurd (no_others left h)
  step_above n left (Some p) is h more = further n p above is (more p h)

  pub StandsAbove-from : (left n : ℕ) → IsAmong left (Some n) → StandsAbove parents n above
  unfolding IsAmong upward
  StandsAbove-from zero n h = absurd (false≢true h)
  StandsAbove-from (suc left) n h =
      ⊎_elim
      (λ (e : n == above ≡ true). subst (λ a. StandsAbove parents n a) (eqb-true n above e) (itself n))
      (λ (e : n == above ≡ false). step_above n left (parent_of parents n) refl (rw e at h) (StandsAbove-from left))
      (cases_Bool (n == above))

-- an object with the other in its lineage stands below it
pub StandsAbove-stands_below : (parents : List (Option ℕ)) (n above : ℕ) → stands_below parents n above ≡ true → StandsAbove parents n above
unfolding IsAmong
StandsAbove-stands_below parents n above h = StandsAbove-from parents above (length parents) n h

module _ {X : Type 0} (parents : List (Option ℕ)) (own : ℕ → Option X) (x : X) where
  -- the object at this place of a walk upward is the first that has something of its own
  pub record IsFirst (above : List ℕ) (at : ℕ) : Type 0 where
    pub within : at < length above
    pub none : (k : ℕ) → k < at → own (get_or above k 0) ≡ None
    pub some : own (get_or above at 0) ≡ Some x

  step_nearest : (n left at : ℕ) (next : Option ℕ) → own n ≡ None → parent_of parents n ≡ next → IsFirst (upward left parents next) at
      → ((p : ℕ) → IsFirst (upward left parents (Some p)) at → Nearest {X = X} parents own p (Some (get_or (upward left parents (Some p)) at 0, x)))
      → Nearest {X = X} parents own n (Some (get_or (upward left parents next) at 0, x))
  step_nearest n left at None none is h more = absurd (omega (arith, subst (λ xs. at < length xs) (upward-none left parents) h.within))
  step_nearest n left at (Some p) none is h more = further n p (Some (get_or (upward left parents (Some p)) at 0, x)) none is (more p h)

  upward-nearest : (left at n : ℕ) → IsFirst (upward left parents (Some n)) at → Nearest {X = X} parents own n (Some (get_or (upward left parents (Some n)) at 0, x))
  unfolding upward
  upward-nearest zero at n h = absurd (omega (arith, h.within))
  upward-nearest (suc left) zero n h = here n x h.some
  upward-nearest (suc left) (suc at) n h =
      let next = parent_of parents n in
      let later : IsFirst (upward left parents next) at = record { within = omega (arith, h.within); none = λ k lt. h.none (suc k) (omega arith); some = h.some } in
      step_nearest n left at next (h.none 0 (omega arith)) refl later (upward-nearest left at)

  -- the first of a lineage that has something of its own is the nearest that has
  pub lineage-nearest : (above : List ℕ) (first at : ℕ) → above ≡ lineage parents (Some first) → IsFirst above at → Nearest {X = X} parents own first (Some (get_or above at 0, x))
  lineage-nearest above first at is h =
      subst (λ ns. Nearest {X = X} parents own first (Some (get_or ns at 0, x))) (sym is) (upward-nearest (length parents) at first (subst (λ ns. IsFirst ns at) is h))
