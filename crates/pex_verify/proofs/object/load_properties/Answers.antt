use Rattle.std.proofs.Common.{◌≡◌, ℕ, ◌<◌, ◌≤◌, List, length, get_or, take, sym, ap, subst, ◌∙◌, arith}
use Rattle.std.proofs.lemmas.List.{length-take-le, take_all}
use Rattle.pex_values.specs.declared.values.PexProperty.{PexProperty}
use Rattle.pex_verify.specs.declared.judged.JudgedProperty.{JudgedProperty}
use Rattle.pex_verify.specs.Pairs.{Paired}
use Rattle.pex_verify.specs.Places.{bounds_of}
use Rattle.pex_verify.specs.Properties.{IsProperty}
use Rattle.pex_verify.specs.Soundness.{IsSoundProperty}
use Rattle.pex_verify.proofs.Lists.{all_grown}
use Rattle.pex_verify.proofs.Pairs.{Paired-next}
use Rattle.pex_verify.proofs.object.load_properties.Goals as goal

pub loop-place-preserved : goal.loop-place-preserved
loop-place-preserved c =
    let home = c.args.home.now in
    let IsLoaded : ℕ → PexProperty → JudgedProperty → Type 0 = λ n p f. IsProperty home n p f in
    let all = home.object.now.properties.items in
    let old = c.loop-place.properties.items in
    let i = c.loop-place.place in
    let item = c.property-item.result in
    let is : item ≡ get_or all i item = subst (λ (l : List PexProperty). item ≡ get_or l i item) c.deref-property-items.ensures.value c.property-item.is in
    let within : i < length all = omega arith in
    let taken : length (take i all) ≡ i = length-take-le i all (omega arith) in
    let last : i ≡ length old = sym taken ∙ c.loop-place.invariant.1.count in
    let here : IsLoaded (length old) item c.in-Ok.loaded = subst (λ (n : ℕ). IsLoaded n item c.in-Ok.loaded) last c.in-Ok.ensures.property in (
      all_grown (IsSoundProperty (bounds_of home)) old c.push.new.self.items c.in-Ok.loaded c.in_ok-push-in-Ok.ensures.items c.loop-place.invariant.0 c.in-Ok.ensures.sound,
      Paired-next PexProperty JudgedProperty IsLoaded all old c.push.new.self.items i item item c.in-Ok.loaded c.in_ok-push-in-Ok.ensures.items within is c.loop-place.invariant.1 here,
    )

pub returns-clause-written : goal.returns-clause-written
returns-clause-written c =
    let home = c.args.home.now in
    let IsLoaded : ℕ → PexProperty → JudgedProperty → Type 0 = λ n p f. IsProperty home n p f in
    let all = home.object.now.properties.items in
    let i = c.loop-place.place in
    let past : length all ≤ i = omega (arith, ap length c.deref-property-items.ensures.value) in
    subst (λ (l : List PexProperty). Paired PexProperty JudgedProperty IsLoaded l c.loop-place.properties.items) (take_all i all past) c.loop-place.invariant.1
