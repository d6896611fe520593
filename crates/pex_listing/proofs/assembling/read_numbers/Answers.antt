use Rattle.std.proofs.Common.{◌≡◌, ℕ, ◌<◌, ◌^◌, arith, rules, suc, ◌-◌, ap, ◌∙◌, sym}
use Rattle.std.proofs.lemmas.Grind.{common_steps}
use Rattle.pex_values.specs.Spelling as spell
use Rattle.pex_listing.specs.Lines.{number}
use Rattle.pex_listing.proofs.Parts.{fields_nothing, fields_more}
use Rattle.pex_listing.proofs.Taken.{spent_takes}
use Rattle.pex_listing.specs.Breaks.{a_number, numbers}
use Rattle.pex_listing.specs.Left.{line_left, view}
use Rattle.pex_listing.proofs.Following.{some_field, no_more, no_number, no_numbers, number_next}
use Rattle.pex_listing.proofs.assembling.read_numbers.Goals as goal

pub loop-place-init : goal.loop-place-init
loop-place-init c = record {
  read = fields_nothing (λ (n : ℕ). n < 2 ^ 16) number spell.two_bytes c.args.listing.now _ c.new-numbers.ensures.items;
  count = grind (arith, common_steps);
  left = λ s awaited n whole. let same : 65535 ≡ n = omega (arith, whole) in ap (λ k. line_left s awaited (numbers k) (view c.args.listing.now)) same;
}

pub loop-place-preserved : goal.loop-place-preserved
loop-place-preserved c = record {
  read = fields_more c.unsigned_16.result _ c.loop-place.invariant.read (record { takes = spent_takes c.spend.ensures.spends c.unsigned_16.ensures.taken; holds = λ good. search rules }) c.in_ok-push.ensures.items;
  count = grind (arith, common_steps);
  left = λ s awaited n whole.
      let text = some_field (view c.loop-place.listing) (sym c.if-not-has_field.ensures) in
      c.loop-place.invariant.left s awaited (suc n) (omega (arith, whole))
      ∙ number_next s awaited n (view c.loop-place.listing) text.0 text.1
      ∙ c.spend.ensures.pays.left s awaited (a_number 0 65535 (λ _. numbers n))
      ∙ c.unsigned_16.ensures.counted.left s awaited (λ _. numbers n);
}

pub returns-then-not-has_field : goal.returns-then-not-has_field
returns-then-not-has_field c =
    let read = c.loop-place.invariant.read in
    record {
      gives = record { takes = read.takes; holds = λ good. (omega arith, read.each good) };
      left = record { left = λ s awaited k. c.loop-place.invariant.left s awaited (65535 - c.loop-place._place) (omega arith) ∙ no_more s awaited (numbers (65535 - c.loop-place._place)) (no_number (65535 - c.loop-place._place)) (view c.loop-place.listing) (sym c.if-not-has_field.ensures) };
    }

pub returns : goal.returns
returns c =
    let read = c.loop-place.invariant.read in
    record {
      gives = record { takes = read.takes; holds = λ good. (omega arith, read.each good) };
      left = record { left = λ s awaited k. c.loop-place.invariant.left s awaited 0 (omega arith) ∙ no_numbers s awaited (view c.loop-place.listing) };
    }
