use Rattle.std.proofs.Common.{◌≡◌, ℕ, ◌<◌, ◌≤◌, List, Global, Vec, Option, IsSome, All, length, nat_eq, get_or, slice_index, sym, ap, subst, ◌∙◌, arith}
use Rattle.std.specs.HashMap.{get}
use Rattle.papy_base.specs.declared.name.Name.{Name}
use Rattle.std.proofs.lemmas.List.{get_or_read, get_or-map, length-map}
use Rattle.std.proofs.lemmas.Result.{IfOk-weaker}
use borrow.Author.Count.{below_more}
use Rattle.pex_values.specs.declared.values.PexState.{PexState}
use Rattle.pex_verify.specs.Rules.{AreDistinct, EachReplaces, state_numbers}
use Rattle.pex_verify.specs.Signatures.{number_at}
use Rattle.pex_verify.specs.Sites.{site_of}
use Rattle.pex_verify.specs.declared.judged.JudgedFunction.{JudgedFunction}
use Rattle.pex_verify.specs.Places.{bounds_of}
use Rattle.pex_verify.specs.Soundness.{IsSoundState}
use Rattle.pex_verify.specs.States.{WrittenState, IsState, state_written}
use Rattle.pex_verify.proofs.Distinct.{distinct_more, new_number, noted_more}
use Rattle.pex_verify.proofs.Lists.{all_grown}
use Rattle.pex_verify.proofs.Pairs.{Paired-mapped}
use Rattle.pex_verify.proofs.object.load_states.Goals as goal

pub loop-state-preserved : goal.loop-state-preserved
loop-state-preserved c =
    let home = c.args.home.now in
    let bounds = bounds_of home in
    let IsSound : Name × Vec JudgedFunction Global → Type 0 = λ state. IsSoundState bounds state.1.items in
    let IsLoaded : ℕ → WrittenState → Name × Vec JudgedFunction Global → Type 0 = λ n w s. IsState (site_of home) w s in
    let all = home.object.now.states.items in
    let old = c.loop-state.states.items in
    let i = c.loop-state.state-index in
    let item = c.state-item.result in
    let is : item ≡ get_or all i item = subst (λ (l : List PexState). item ≡ get_or l i item) c.deref-state-items.ensures.value c.state-item.is in
    let within : i < length all = omega arith in
    let Replaced : ℕ → Type 0 = λ k. (d : PexState) → EachReplaces home (get_or all k d) in
    let here : Replaced i = λ d. subst (λ (state : PexState). EachReplaces home state) (get_or_read all i item within is d) c.in_ok-load_state.ensures.replaces in
    let number_of : PexState → ℕ = λ state. number_at home.source.now.names.now state.name in
    let numbers = state_numbers home in
    let before : ℕ → Option (Unit {0}) = λ n. get nat_eq c.loop-state.seen n in
    let after : ℕ → Option (Unit {0}) = λ n. get nat_eq c.note.new.seen n in
    let same : c.number.result ≡ slice_index numbers i = c.number.ensures ∙ ap number_of is ∙ sym (get_or-map number_of all i item 0 within) in
    let new = new_number numbers before i c.number.result same (c.in_ok-note.ensures.new c.if-not-branch.false) in
    let loaded = c.in_ok-load_state.field-0 in (
      all_grown IsSound old c.push.new.self.items loaded c.in_ok-push.ensures.items c.loop-state.invariant.0 c.in_ok-load_state.ensures.sound,
      Paired-mapped PexState WrittenState (Name × Vec JudgedFunction Global) IsLoaded (state_written home) all old c.push.new.self.items i item item loaded c.in_ok-push.ensures.items within is c.loop-state.invariant.1 c.in_ok-load_state.ensures.written,
      λ k d h. below_more Replaced i (λ j below other. c.loop-state.invariant.2 j other below) here k h d,
      noted_more numbers before after tt i c.number.result same c.in_ok-note.ensures.noted c.loop-state.invariant.3,
      distinct_more numbers (λ n. IsSome (before n)) i c.loop-state.invariant.3 new c.loop-state.invariant.4,
    )

pub returns-then-has_empty_state-clause-replaces : goal.returns-then-has_empty_state-clause-replaces
returns-then-has_empty_state-clause-replaces c = λ k d within.
    let all = c.args.home.now.object.now.states.items in
    let i = c.loop-state.state-index in
    let past : length all ≤ i = omega (arith, ap length c.deref-state-items.ensures.value) in
    let below : k < i = omega arith in
    c.loop-state.invariant.2 k d below

pub returns-clause-distinct : goal.returns-clause-distinct
returns-clause-distinct c =
    let home = c.args.home.now in
    let all = home.object.now.states.items in
    let i = c.loop-state.state-index in
    let past : length all ≤ i = omega (arith, ap length c.deref-state-items.ensures.value) in
    let long : length (state_numbers home) ≡ length all = length-map all (λ (state : PexState). number_at home.source.now.names.now state.name) in
    let distinct : AreDistinct (state_numbers home) = λ a b less within.
    let below : b < i = omega arith in
    c.loop-state.invariant.4 a b less below in
    IfOk-weaker c.completed.result _ (λ states. AreDistinct (state_numbers home)) (λ states sound. distinct) c.completed.ensures.sound

pub returns-clause-replaces : goal.returns-clause-replaces
returns-clause-replaces c =
    let home = c.args.home.now in
    let all = home.object.now.states.items in
    let i = c.loop-state.state-index in
    let past : length all ≤ i = omega (arith, ap length c.deref-state-items.ensures.value) in
    let replaces : All (EachReplaces home) all = λ k d within.
    let below : k < i = omega arith in
    c.loop-state.invariant.2 k d below in
    IfOk-weaker c.completed.result _ (λ states. All (EachReplaces home) all) (λ states sound. replaces) c.completed.ensures.sound
