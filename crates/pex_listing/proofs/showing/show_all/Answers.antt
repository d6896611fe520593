use Rattle.std.proofs.Common.{◌∙◌, refl}
use Rattle.pex_listing.specs.Spelled.{spelled_in}
use Rattle.pex_listing.specs.declared.faults.ShowFault.TheVariants.{OutOfMemory}
use Rattle.pex_listing.proofs.Writing.{all_shown, none_yet, part_shown, part_stops, wrote_err}
use Rattle.pex_listing.proofs.showing.show_all.Goals as goal

pub loop-part-init : goal.loop-part-init
loop-part-init g c = record { faults = refl; written = none_yet ((g.T.Shown.text (spelled_in c.args.names.now))) c.args.parts.now c.args.out.now.items _ _ refl }

pub returns-in_err-show_part-clause-written : goal.returns-in_err-show_part-clause-written
returns-in_err-show_part-clause-written g c =
    wrote_err _ _ c.from_residual.result _ _ c.from_residual.ensures.0
    (part_stops ((g.T.Shown.text (spelled_in c.args.names.now))) c.args.parts.now c.args.out.now.items OutOfMemory c.loop-part.part-index c.part-item.result c.loop-part.out.items _ _ _ c.loop-part-test.true c.part-item.is c.loop-part.invariant.written c.in_err-show_part.ensures.written)

pub loop-part-preserved : goal.loop-part-preserved
loop-part-preserved g c = record {
  faults = c.in_ok-show_part.ensures.faults ∙ c.loop-part.invariant.faults;
  written =
      part_shown ((g.T.Shown.text (spelled_in c.args.names.now))) c.args.parts.now c.args.out.now.items c.loop-part.part-index c.part-item.result c.loop-part.out.items _ _ _ _ c.loop-part-test.true c.part-item.is c.loop-part.invariant.written c.in_ok-show_part.ensures.written;
}

pub returns-clause-written : goal.returns-clause-written
returns-clause-written g c = all_shown ((g.T.Shown.text (spelled_in c.args.names.now))) c.args.parts.now c.args.out.now.items c.loop-part.part-index _ _ _ c.loop-part-test.false c.loop-part.invariant.written
