-- What a walk upward has passed, and what it finds.
use Rattle.std.proofs.Common.{ℕ, ◌≡◌, List, [], ◌∷◌, ◌++◌, append_assoc, length, get_or, Option, Some, None, IfSome, refl, sym, ap, subst, ◌∙◌, arith}
use Rattle.std.specs.List.{All}
use Rattle.std.proofs.Math.ListN.{get_or-append}
use Rattle.std.proofs.Math.Seq.{get_or-append_seam}
use Rattle.std.proofs.lemmas.List.{length-append}
use Rattle.std.proofs.lemmas.List.Elements.{All-push, All-get_or, All-head, All-tail}
use Rattle.std.specs.Option.{option_map, option_or}
use Rattle.std.proofs.lemmas.Option.{IfSome_then}
use Rattle.papy_base.specs.Lineage.{lineage, StandsAbove, Nearest, itself, here, further, nowhere}
use Rattle.papy_base.proofs.StandingLemmas.{IsFirst, lineage-nearest}
use Rattle.scene_binder.specs.Faults.{first_own}

module _ {X : Type 0} (parents : List (Option ℕ)) (own : ℕ → Option X) where
  -- from the first object upward, these have nothing of their own, and those come next
  pub record HasPassed (first : ℕ) (passed left : List ℕ) : Type 0 where
    pub way : passed ++ left ≡ lineage parents (Some first)
    pub none : All (λ n. own n ≡ None) passed

  pub HasPassed-more : (first : ℕ) (passed : List ℕ) (n : ℕ) (left : List ℕ) → HasPassed first passed (n ∷ left) → own n ≡ None → HasPassed first (passed ++ n ∷ []) left
  HasPassed-more first passed n left h none =
      record { way = append_assoc passed (n ∷ []) left ∙ h.way; none = All-push (λ n. own n ≡ None) passed n h.none none }

  pub HasPassed-nearest : (first : ℕ) (passed : List ℕ) (n : ℕ) (left : List ℕ) (x : X) → HasPassed first passed (n ∷ left) → own n ≡ Some x → Nearest {X = X} parents own first (Some (n, x))
  HasPassed-nearest first passed n left x h some =
      let above = passed ++ n ∷ left in
      let found : get_or above (length passed) 0 ≡ n = get_or-append_seam passed n left 0 in
      let is_first : IsFirst {X = X} parents own x above (length passed) = record {
        within = omega (arith, length-append passed (n ∷ left));
        none = λ k lt. ap own (get_or-append passed (n ∷ left) 0 k lt) ∙ All-get_or (λ n. own n ≡ None) passed k 0 lt h.none;
        some = ap own found ∙ some;
      } in
      subst (λ m. Nearest {X = X} parents own first (Some (m, x))) found (lineage-nearest {X = X} parents own x above first (length passed) h.way is_first)

  -- what is nearest to an object stands above it
  pub Nearest-above : {n : ℕ} {found : Option (ℕ × X)} → Nearest {X = X} parents own n found → IfSome found (λ f. StandsAbove parents n f.0)
  Nearest-above (here n x is) = itself n
  Nearest-above (further n p found none is more) = IfSome_then found (Nearest-above more) (λ f above. further n p f.0 is above)
  Nearest-above (nowhere n none is) = tt

  first_own-passed : (passed left : List ℕ) → All (λ n. own n ≡ None) passed → first_own {X = X} own (passed ++ left) ≡ first_own {X = X} own left
  first_own-passed [] left none = refl
  first_own-passed (n ∷ passed) left none =
      ap (λ o. option_or (option_map (λ x. (n, x)) o) (first_own {X = X} own (passed ++ left))) (All-head (λ n. own n ≡ None) n passed none) ∙ first_own-passed passed left (All-tail (λ n. own n ≡ None) n passed none)

  -- what is found at a step, and that nothing is at the end
  pub HasPassed-first : (first : ℕ) (passed : List ℕ) (n : ℕ) (left : List ℕ) (x : X) → HasPassed first passed (n ∷ left) → own n ≡ Some x → first_own {X = X} own (lineage parents (Some first)) ≡ Some (n, x)
  HasPassed-first first passed n left x h some =
      ap (first_own {X = X} own) (sym h.way) ∙ (first_own-passed passed (n ∷ left) h.none ∙ ap (λ o. option_or (option_map (λ x. (n, x)) o) (first_own {X = X} own left)) some)

  pub HasPassed-nothing : (first : ℕ) (passed left : List ℕ) → HasPassed first passed left → left ≡ [] → first_own {X = X} own (lineage parents (Some first)) ≡ None
  HasPassed-nothing first passed left h end =
      ap (first_own {X = X} own) (sym h.way) ∙ (first_own-passed passed left h.none ∙ ap (first_own {X = X} own) end)
