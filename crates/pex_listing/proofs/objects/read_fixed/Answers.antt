use Rattle.std.proofs.Common.{◌≡◌, suc, vec_len, ap, ◌∙◌, arith}
use Rattle.std.proofs.lemmas.Grind.{common_steps}
use Rattle.pex_values.specs.Shape.{IsShapedDatum}
use Rattle.pex_values.specs.Spelling as spell
use Rattle.pex_listing.specs.Listing as form
use Rattle.pex_listing.specs.Spelled.{spelled_in}
use Rattle.pex_listing.specs.Breaks.{values}
use Rattle.pex_listing.specs.Left.{line_left, view}
use Rattle.pex_listing.proofs.Parts.{fields_nothing, fields_more}
use Rattle.pex_listing.proofs.objects.read_fixed.Goals as goal

pub loop-place-init : goal.loop-place-init
loop-place-init c = record {
  read = fields_nothing (IsShapedDatum (vec_len c.args.names.now.spelled)) (form.datum (spelled_in c.args.names.now)) spell.datum c.args.listing.now _ c.new-values.ensures.items;
  count = grind (arith, common_steps);
  left = λ strings table s awaited form n whole. let same : c.args.count ≡ n = omega (arith, whole) in ap (λ k. line_left s awaited (values strings k form) (view c.args.listing.now)) same;
}

pub loop-place-preserved : goal.loop-place-preserved
loop-place-preserved c = record {
  read = fields_more c.read_datum.result _ c.loop-place.invariant.read c.read_datum.ensures.gives c.in_ok-push.ensures.items;
  count = grind (arith, common_steps);
  left = λ strings table s awaited form n whole.
      c.loop-place.invariant.left strings table s awaited form (suc n) (omega (arith, whole)) ∙ (c.read_datum.ensures.left strings table).left s awaited (values strings n form);
}

pub returns : goal.returns
returns c =
    let read = c.loop-place.invariant.read in
    record {
      values = record { takes = read.takes; holds = read.each };
      count = grind (arith, common_steps);
      left = λ strings table. record { left = λ s awaited form. c.loop-place.invariant.left strings table s awaited form 0 (omega arith) };
    }
