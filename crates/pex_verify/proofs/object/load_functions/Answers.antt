use Rattle.std.proofs.Common.{◌≡◌, ℕ, ◌<◌, List, Option, IsSome, length, nat_eq, get_or, slice_index, sym, ap, subst, ◌∙◌, arith}
use Rattle.std.specs.HashMap.{get}
use Rattle.std.proofs.lemmas.List.{get_or_read, get_or-map}
use borrow.Author.Count.{below_more}
use Rattle.pex_values.specs.declared.values.PexFunction.{PexFunction}
use Rattle.pex_verify.specs.Rules.{Replaces, function_numbers}
use Rattle.pex_verify.specs.Signatures.{number_at}
use Rattle.pex_verify.specs.Sites.{site_of}
use Rattle.pex_verify.specs.declared.judged.JudgedFunction.{JudgedFunction}
use Rattle.pex_verify.specs.Matching.{Written, IsWritten}
use Rattle.pex_verify.specs.Places.{bounds_of}
use Rattle.pex_verify.specs.Soundness.{IsSoundFunction}
use Rattle.pex_verify.specs.States.{own_written}
use Rattle.pex_verify.proofs.Distinct.{distinct_more, new_number, noted_more}
use Rattle.pex_verify.proofs.Lists.{all_grown}
use Rattle.pex_verify.proofs.Pairs.{Paired-mapped}
use Rattle.pex_verify.proofs.object.load_functions.Goals as goal

pub loop-name-preserved : goal.loop-name-preserved
loop-name-preserved c =
    let home = c.args.home.now in
    let IsLoaded : ℕ → Written → JudgedFunction → Type 0 = λ n w f. IsWritten (site_of home) w f in
    let all = c.args.state.now.functions.items in
    let old = c.loop-name.functions.items in
    let i = c.loop-name.name-index in
    let item = c.loop-name-item.result in
    let is : item ≡ get_or all i item = subst (λ (l : List (ℕ × PexFunction)). item ≡ get_or l i item) c.deref-name-items.ensures.value c.loop-name-item.is in
    let within : i < length all = omega arith in
    let Replaced : ℕ → Type 0 = λ k. (d : ℕ × PexFunction) → Replaces home c.args.state.now.name (get_or all k d) in
    let here : Replaced i = λ d. subst (λ (f : ℕ × PexFunction). Replaces home c.args.state.now.name f) (get_or_read all i item within is d) c.in-Ok.ensures.replaces in
    let number_of : ℕ × PexFunction → ℕ = λ f. number_at home.source.now.names.now f.0 in
    let numbers = function_numbers home c.args.state.now in
    let before : ℕ → Option (Unit {0}) = λ n. get nat_eq c.loop-name.seen n in
    let after : ℕ → Option (Unit {0}) = λ n. get nat_eq c.note.new.seen n in
    let same : c.number.result ≡ slice_index numbers i = c.number.ensures ∙ ap number_of is ∙ sym (get_or-map number_of all i item 0 within) in
    let new = new_number numbers before i c.number.result same (c.in_ok-is_new.ensures.new c.in-Ok.ensures.new) in (
      all_grown (IsSoundFunction (bounds_of home)) old c.push.new.self.items c.in-Ok.loaded c.in_ok-push-in-Ok.ensures.items c.loop-name.invariant.0 c.in-Ok.ensures.sound,
      Paired-mapped (ℕ × PexFunction) Written JudgedFunction IsLoaded (own_written home) all old c.push.new.self.items i item item c.in-Ok.loaded c.in_ok-push-in-Ok.ensures.items within is c.loop-name.invariant.1 c.in-Ok.ensures.written,
      λ k d h. below_more Replaced i (λ j below other. c.loop-name.invariant.2 j other below) here k h d,
      noted_more numbers before after tt i c.number.result same c.in_ok-is_new.ensures.noted c.loop-name.invariant.3,
      distinct_more numbers (λ n. IsSome (before n)) i c.loop-name.invariant.3 new c.loop-name.invariant.4,
    )
