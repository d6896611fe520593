-- Linking one more object to the one before it that has the same parent.
use Rattle.std.proofs.Common.{◌≡◌, ℕ, ◌+◌, ◌<◌, List, length, set, slice_index_or, Option, Some, None, refl, sym, ap, subst, ◌∙◌, ⊎_elim, arith}
use Rattle.std.proofs.lemmas.Bool.{cases_eq}
use Rattle.std.proofs.lemmas.List.{length-set, get_or_read, get_or-set_same, get_or-set_other}
use Rattle.papy_base.specs.Orders.{parent_number, IsLast, AreLinked}
use Rattle.papy_base.proofs.LineageLemmas.{parent_number_within}

-- ---- the last of a parent, one object on
last_other : (parents : List (Option ℕ)) (parent bound : ℕ) (last : Option ℕ) → IsLast parents parent bound last → (parent_number parents bound ≡ parent → ⊥) → IsLast parents parent (bound + 1) last
last_other parents parent bound None h differs = λ other within same.
    ⊎_elim
    (λ (here : other ≡ bound). differs (ap (parent_number parents) (sym here) ∙ same))
    (λ (not_here : other ≡ bound → ⊥). h other (omega (arith, not_here)) same)
    (cases_eq other bound)
last_other parents parent bound (Some object) h differs = (
  omega (arith, h.0),
  h.1,
  λ other above within same.
      ⊎_elim
      (λ (here : other ≡ bound). differs (ap (parent_number parents) (sym here) ∙ same))
      (λ (not_here : other ≡ bound → ⊥). h.2 other above (omega (arith, not_here)) same)
      (cases_eq other bound),
)

last_new : (parents : List (Option ℕ)) (bound : ℕ) → IsLast parents (parent_number parents bound) (bound + 1) (Some bound)
last_new parents bound = (omega arith, refl, λ other above within same. absurd (omega arith))

pub AreLinked-more : (parents : List (Option ℕ)) (object parent : ℕ) (earlier : Option ℕ) (last before : List (Option ℕ)) → object < length parents → AreLinked parents object last before → parent ≡ parent_number parents object → earlier ≡ slice_index_or last parent earlier → AreLinked parents (object + 1) (set last parent (Some object)) (set before object earlier)
AreLinked-more parents object parent earlier last before within linked of_parent read =
    let parent_within = parent_number_within parents object in
    let many : length last ≡ length parents + 1 = linked.parents_have_last in
    let as_many : length before ≡ length parents = linked.objects_have_before in
    let earlier_is : earlier ≡ slice_index_or last parent None = get_or_read last parent earlier (omega arith) read None in
    record {
      parents_have_last = length-set last parent (Some object) ∙ many;
      objects_have_before = length-set before object earlier ∙ as_many;
      last_is = λ other other_within.
          ⊎_elim
          (λ (same : other ≡ parent).
          subst (λ n. IsLast parents n (object + 1) (slice_index_or (set last parent (Some object)) n None)) (sym same)
          (subst (IsLast parents parent (object + 1)) (sym (get_or-set_same last parent (Some object) None (omega arith)))
          (subst (λ n. IsLast parents n (object + 1) (Some object)) (sym of_parent) (last_new parents object))))
          (λ (differs : other ≡ parent → ⊥).
          subst (IsLast parents other (object + 1)) (sym (get_or-set_other last parent other (Some object) None differs))
          (last_other parents other object (slice_index_or last other None) (linked.last_is other other_within) (λ e. differs (sym e ∙ sym of_parent))))
          (cases_eq other parent);
      before_is = λ other below.
          ⊎_elim
          (λ (same : other ≡ object).
          subst (λ n. IsLast parents (parent_number parents n) n (slice_index_or (set before object earlier) n None)) (sym same)
          (subst (IsLast parents (parent_number parents object) object) (sym (get_or-set_same before object earlier None (omega arith) ∙ earlier_is ∙ ap (λ n. slice_index_or last n None) of_parent))
          (linked.last_is (parent_number parents object) parent_within)))
          (λ (differs : other ≡ object → ⊥).
          subst (IsLast parents (parent_number parents other) other) (sym (get_or-set_other before object other earlier None differs))
          (linked.before_is other (omega (arith, differs))))
          (cases_eq other object);
    }
