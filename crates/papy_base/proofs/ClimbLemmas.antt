-- Steps up along parents.
use Rattle.std.specs.Prelude.{zero, suc}
use Rattle.std.proofs.Common.{◌≡◌, ℕ, ◌+◌, ◌-◌, ◌*◌, ◌<◌, ◌≤◌, List, ◌∷◌, length, get_or, Option, None, Some, IfSome, refl, sym, ap, subst, ◌∙◌, arith}
use Rattle.std.specs.Option.{option_and_then}
use Rattle.std.specs.List.{slice_get}
use Rattle.std.proofs.lemmas.Option.{slice_get-get_or, slice_get_within, option_and_then_some}
use Rattle.papy_base.specs.Lineage.{parent_of, upward, lineage, AreAmong}
use Rattle.papy_base.specs.Circles.{climb}

climb-none : (parents : List (Option ℕ)) (steps : ℕ) → climb parents steps None ≡ None
unfolding climb
climb-none parents zero = refl
climb-none parents (suc steps) = climb-none parents steps

pub climb-zero : (parents : List (Option ℕ)) (object : Option ℕ) → climb parents 0 object ≡ object
unfolding climb
climb-zero parents object = refl

pub climb-one : (parents : List (Option ℕ)) (object : Option ℕ) → climb parents 1 object ≡ option_and_then (parent_of parents) object
unfolding climb
climb-one parents object = refl

pub climb-add : (parents : List (Option ℕ)) (first more : ℕ) (object : Option ℕ) → climb parents (first + more) object ≡ climb parents more (climb parents first object)
unfolding climb
climb-add parents zero more object =
    let e : zero + more ≡ more = omega arith in
    ap (λ (n : ℕ). climb parents n object) e
climb-add parents (suc first) more object =
    let e : suc first + more ≡ suc (first + more) = omega arith in
    ap (λ (n : ℕ). climb parents n object) e
    ∙ climb-add parents first more (option_and_then (parent_of parents) object)

-- as many more steps as there are after the first ones
pub climb-rest : (parents : List (Option ℕ)) (first steps : ℕ) (object : Option ℕ) → first ≤ steps → climb parents steps object ≡ climb parents (steps - first) (climb parents first object)
climb-rest parents first steps object le =
    let sum : steps ≡ first + (steps - first) = omega arith in
    ap (λ (n : ℕ). climb parents n object) sum
    ∙ climb-add parents first (steps - first) object

pub climb-stays : (parents : List (Option ℕ)) (first more : ℕ) (object : Option ℕ) → first ≤ more → climb parents first object ≡ None → climb parents more object ≡ None
climb-stays parents first more object le e =
    climb-rest parents first more object le
    ∙ ap (climb parents (more - first)) e
    ∙ climb-none parents (more - first)

pub climb-next : (parents : List (Option ℕ)) (steps : ℕ) (object : Option ℕ) (here : ℕ) → climb parents steps object ≡ Some here → climb parents (steps + 1) object ≡ parent_of parents here
climb-next parents steps object here e =
    climb-add parents steps 1 object
    ∙ ap (climb parents 1) e
    ∙ climb-one parents (Some here)

-- ---- a parent is one of the objects, and has its children among them
pub parent_within : (parents : List (Option ℕ)) (here parent : ℕ) → AreAmong parents → here < length parents → parent_of parents here ≡ Some parent → parent < length parents
parent_within parents here parent among within e =
    let f : get_or parents here None ≡ Some parent = ap (option_and_then (λ (o : Option ℕ). o)) (sym (slice_get-get_or parents here None within)) ∙ e in
    subst (λ (o : Option ℕ). IfSome o (λ n. n < length parents)) f (among here None within)

pub child_within : (parents : List (Option ℕ)) (here parent : ℕ) → parent_of parents here ≡ Some parent → here < length parents
child_within parents here parent e =
    option_and_then_some (λ (o : Option ℕ). o) (slice_get parents here) parent e (λ o read _. slice_get_within parents here o read)

-- ---- around a circle
pub climb-around : (parents : List (Option ℕ)) (steps object times : ℕ) → climb parents steps (Some object) ≡ Some object → climb parents (times * steps) (Some object) ≡ Some object
climb-around parents steps object zero e =
    let none : zero * steps ≡ 0 = omega arith in
    ap (λ (n : ℕ). climb parents n (Some object)) none ∙ climb-zero parents (Some object)
climb-around parents steps object (suc times) e =
    let sum : suc times * steps ≡ steps + times * steps = omega arith in
    ap (λ (n : ℕ). climb parents n (Some object)) sum
    ∙ climb-add parents steps (times * steps) (Some object)
    ∙ ap (climb parents (times * steps)) e
    ∙ climb-around parents steps object times e

pub enough_times : (steps some : ℕ) → 0 < some → steps ≤ steps * some
enough_times steps zero h = absurd (omega arith)
enough_times steps (suc some) h = omega arith

-- who is on a circle comes to no end
pub no_end : (parents : List (Option ℕ)) (steps object long : ℕ) → 0 < steps → climb parents steps (Some object) ≡ Some object → climb parents long (Some object) ≡ None → {A : Type 0} → A
no_end parents steps object long some round end =
    let last = climb-stays parents long (long * steps) (Some object) (enough_times long steps some) end in
    let here = climb-around parents steps object long round in
    absurd (none_is_some (sym last ∙ here))
  where
    none_is_some : {n : ℕ} → None ≡ Some n → ⊥
    none_is_some e = cc

-- all above an object on a circle are on it
pub round_above : (parents : List (Option ℕ)) (steps object more above : ℕ) → climb parents steps (Some object) ≡ Some object → climb parents more (Some object) ≡ Some above → climb parents steps (Some above) ≡ Some above
round_above parents steps object more above round e =
    let swap : more + steps ≡ steps + more = omega arith in
    ap (climb parents steps) (sym e)
    ∙ sym (climb-add parents more steps (Some object))
    ∙ ap (λ (n : ℕ). climb parents n (Some object)) swap
    ∙ climb-add parents steps more (Some object)
    ∙ ap (climb parents more) round
    ∙ e

-- ---- objects that come to an end
ends_up : (parents : List (Option ℕ)) (left : ℕ) (object : Option ℕ) → climb parents left object ≡ None → upward left parents object ≡ upward (suc left) parents object
unfolding climb upward
ends_up parents zero None e = refl
ends_up parents zero (Some object) e = absurd (cc)
ends_up parents (suc left) None e = refl
ends_up parents (suc left) (Some object) e = ap (λ (l : List ℕ). object ∷ l) (ends_up parents left (parent_of parents object) e)

goes_up : (parents : List (Option ℕ)) (left object : ℕ) → climb parents left (Some object) ≡ None → upward left parents (Some object) ≡ object ∷ upward left parents (parent_of parents object)
unfolding climb upward
goes_up parents zero object e = absurd (cc)
goes_up parents (suc left) object e = ap (λ (l : List ℕ). object ∷ l) (ends_up parents left (parent_of parents object) e)

pub rooted_from_end : (parents : List (Option ℕ)) (steps object : ℕ) → steps ≤ length parents → climb parents steps (Some object) ≡ None → lineage parents (Some object) ≡ object ∷ lineage parents (parent_of parents object)
rooted_from_end parents steps object few e =
    goes_up parents (length parents) object (climb-stays parents steps (length parents) (Some object) few e)
