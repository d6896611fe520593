use Rattle.std.proofs.Common.{◌≡◌, ◌≤◌, Bool, true, eqb, eq-eqb, List, length, get_or, sym, ap, subst, ◌∙◌, arith}
use Rattle.std.proofs.lemmas.List.{get_or_read}
use Rattle.pex_values.specs.declared.values.PexState.{PexState}
use Rattle.pex_verify.specs.Signatures.{number_at}
use Rattle.pex_verify.proofs.Pairs.{first_place}
use Rattle.pex_verify.proofs.scripts.empty_state_place.Goals as goal

pub returns-then-number-eq-EMPTY_NAME : goal.returns-then-number-eq-EMPTY_NAME
returns-then-number-eq-EMPTY_NAME c =
    let states = c.args.object.now.states.items in
    let names = c.args.names.now in
    let is_empty : PexState → Bool = λ state. eqb (number_at names state.name) 0 in
    let place = c.loop-place.place in
    let state = c.state-item.result in
    let is : state ≡ get_or states place state = subst (λ (l : List PexState). state ≡ get_or l place state) c.deref-state-items.ensures.value c.state-item.is in
    let found : number_at names state.name ≡ 0 = sym c.number.ensures ∙ c.if-number-eq-EMPTY_NAME.true in
    let here : is_empty state ≡ true = eq-eqb (number_at names state.name) 0 found in
    first_place is_empty states place (omega arith) c.loop-place.invariant (λ d h. ap is_empty (sym (get_or_read states place state h is d)) ∙ here)

pub returns : goal.returns
returns c =
    let states = c.args.object.now.states.items in
    let names = c.args.names.now in
    let is_empty : PexState → Bool = λ state. eqb (number_at names state.name) 0 in
    let past : length states ≤ c.len.result = omega arith in
    first_place is_empty states c.len.result (omega arith) (λ k d h. c.loop-place.invariant k d (omega arith)) (λ d h. absurd (omega arith))
