use Rattle.std.proofs.Common.{◌≡◌, ℕ, ◌+◌, ◌<◌, ◌≤◌, Bool, true, false, cond, eqb, List, ◌∷◌, All, Global, Vec, length, get_or, drop, sym, ap, subst, ◌∙◌, arith}
use Rattle.std.proofs.lemmas.List.{at_drop_more, at_drop_all}
use Rattle.papy_base.specs.declared.name.Name.{Name}
use Rattle.pex_verify.specs.declared.judged.JudgedFunction.{JudgedFunction}
use Rattle.pex_verify.specs.Outlining.{functions_without_state}
use Rattle.pex_verify.specs.Places.{bounds_of}
use Rattle.pex_verify.specs.Soundness.{AreSoundFunctions, IsSoundState}
use Rattle.pex_verify.proofs.outlining.empty_state.Goals as goal

pub returns-then-is_empty-clause-sound : goal.returns-then-is_empty-clause-sound
returns-then-is_empty-clause-sound c =
    let bounds = bounds_of c.args.home.now in
    let state = c.state-item.result in
    let items = c.deref-state-items.result.now in
    let IsSound : Name × Vec JudgedFunction Global → Type 0 = λ state. IsSoundState bounds state.1.items in
    let all : All IsSound items = subst (λ (states : List (Name × Vec JudgedFunction Global)). All IsSound states) (sym c.deref-state-items.ensures.value) c.requires.states in
    let within : c.loop-state.state-index < length items = omega arith in
    let here : IsSound state = subst IsSound (sym c.state-item.is) (all c.loop-state.state-index state within) in
    subst (λ (functions : List JudgedFunction). AreSoundFunctions bounds functions) (sym c.as_slice.ensures.value) here.each

-- what the functions are where the state at this place has this name
at_state : (states : List (Name × Vec JudgedFunction Global)) (i : ℕ) (state : Name × Vec JudgedFunction Global) (bytes : List ℕ) (is_empty answer : Bool) → i < length states → state ≡ get_or states i state → bytes ≡ state.0 → is_empty ≡ eqb (length bytes) 0 → is_empty ≡ answer
    → functions_without_state (drop i states) ≡ cond answer state.1.items (functions_without_state (drop (i + 1) states))
at_state states i state bytes is_empty answer within is named tested known =
    let empty : eqb (length state.0) 0 ≡ answer = ap (λ (l : List ℕ). eqb (length l) 0) (sym named) ∙ sym tested ∙ known in
    at_drop_more functions_without_state states i state within
    ∙ ap (λ (s : Name × Vec JudgedFunction Global). functions_without_state (s ∷ drop (i + 1) states)) (sym is)
    ∙ ap (λ (b : Bool). cond b state.1.items (functions_without_state (drop (i + 1) states))) empty

pub returns-then-is_empty-clause-first : goal.returns-then-is_empty-clause-first
returns-then-is_empty-clause-first c =
    let states = c.args.script.now.states.items in
    let state = c.state-item.result in
    let i = c.loop-state.state-index in
    let is : state ≡ get_or states i state = subst (λ (l : List (Name × Vec JudgedFunction Global)). state ≡ get_or l i state) c.deref-state-items.ensures.value c.state-item.is in
    let within : i < length states = omega (arith, ap length c.deref-state-items.ensures.value) in
    c.as_slice.ensures.value ∙ sym (sym c.loop-state.invariant ∙ at_state states i state c.as_bytes.result.now c.is_empty.result true within is c.as_bytes.ensures c.is_empty.ensures c.if-is_empty.true)

pub loop-state-preserved : goal.loop-state-preserved
loop-state-preserved c =
    let states = c.args.script.now.states.items in
    let state = c.state-item.result in
    let i = c.loop-state.state-index in
    let is : state ≡ get_or states i state = subst (λ (l : List (Name × Vec JudgedFunction Global)). state ≡ get_or l i state) c.deref-state-items.ensures.value c.state-item.is in
    let within : i < length states = omega (arith, ap length c.deref-state-items.ensures.value) in
    sym (at_state states i state c.as_bytes.result.now c.is_empty.result false within is c.as_bytes.ensures c.is_empty.ensures c.if-is_empty.false) ∙ c.loop-state.invariant

pub returns-clause-first : goal.returns-clause-first
returns-clause-first c =
    let states = c.args.script.now.states.items in
    let i = c.loop-state.state-index in
    let past : length states ≤ i = omega (arith, ap length c.deref-state-items.ensures.value) in
    sym (sym c.loop-state.invariant ∙ at_drop_all functions_without_state states i past)
