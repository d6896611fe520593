use Rattle.std.proofs.Common.{◌∙◌, refl}
use Rattle.pex_values.specs.Plain.{plain_object}
use Rattle.pex_listing.specs.Listing.{object}
use Rattle.pex_listing.specs.Spelled.{spelled_in}
use Rattle.pex_listing.specs.declared.faults.ShowFault.TheVariants.{OutOfMemory}
use Rattle.pex_listing.proofs.Writing.{all_shown, none_yet, part_shown, part_stops, wrote_err}
use Rattle.pex_listing.proofs.showing.show_objects.Goals as goal

pub loop-object-init : goal.loop-object-init
loop-object-init g c = record { faults = refl; written = none_yet ((λ o. object (spelled_in c.args.names.now) (plain_object o))) c.args.objects.now c.args.out.now.items _ _ refl }

pub returns-in_err-show_object-clause-written : goal.returns-in_err-show_object-clause-written
returns-in_err-show_object-clause-written g c =
    wrote_err _ _ c.from_residual.result _ _ c.from_residual.ensures.0
    (part_stops ((λ o. object (spelled_in c.args.names.now) (plain_object o))) c.args.objects.now c.args.out.now.items OutOfMemory c.loop-object.object-index c.object-item.result c.loop-object.out.items _ _ _ c.loop-object-test.true c.object-item.is c.loop-object.invariant.written c.in_err-show_object.ensures.written)

pub loop-object-preserved : goal.loop-object-preserved
loop-object-preserved g c = record {
  faults = c.in_ok-show_object.ensures.faults ∙ c.loop-object.invariant.faults;
  written =
      part_shown ((λ o. object (spelled_in c.args.names.now) (plain_object o))) c.args.objects.now c.args.out.now.items c.loop-object.object-index c.object-item.result c.loop-object.out.items _ _ _ _ c.loop-object-test.true c.object-item.is c.loop-object.invariant.written c.in_ok-show_object.ensures.written;
}

pub returns-clause-written : goal.returns-clause-written
returns-clause-written g c = all_shown ((λ o. object (spelled_in c.args.names.now) (plain_object o))) c.args.objects.now c.args.out.now.items c.loop-object.object-index _ _ _ c.loop-object-test.false c.loop-object.invariant.written
