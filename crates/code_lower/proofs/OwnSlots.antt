-- The slots of a function at its beginning.
use Rattle.std.proofs.Common.{◌≡◌, ℕ, List, [], ◌++◌, length, Option, None, sym, ap, subst, ◌∙◌}
use Rattle.core_tree.specs.declared.core_type.CoreType.{CoreType}
use Rattle.core_tree.specs.declared.script.CoreFunction.{CoreFunction}
use Rattle.run_laws.specs.Fits.{typed}
use Rattle.code_lower.specs.Slots.{AreSlots}
use Rattle.code_lower.proofs.SlotLemmas.{own_slots, typed_joined}

pub own_slots_hold : (f : CoreFunction) (kinds : List (Option CoreType)) (own : ℕ) (free : List (CoreType × ℕ)) → kinds ≡ typed f.parameters.items ++ typed f.locals.items → own ≡ length kinds → free ≡ [] → AreSlots own kinds free None
own_slots_hold f kinds own free e same none =
    subst (λ (l : List (CoreType × ℕ)). AreSlots own kinds l None) (sym none) (own_slots (f.parameters.items ++ f.locals.items) kinds own (e ∙ typed_joined f.parameters.items f.locals.items) same)

pub own_joined : (none first second : List (Option CoreType)) (p q l m : List CoreType) → none ≡ [] → first ≡ none ++ typed q → q ≡ p → second ≡ first ++ typed m → m ≡ l → second ≡ typed p ++ typed l
own_joined none first second p q l m a b c d e =
    d ∙ (ap (λ (x : List (Option CoreType)). x ++ typed m) (b ∙ (ap (λ (n : List (Option CoreType)). n ++ typed q) a ∙ ap (λ (k : List CoreType). typed k) c)) ∙ ap (λ (k : List CoreType). typed p ++ typed k) e)
