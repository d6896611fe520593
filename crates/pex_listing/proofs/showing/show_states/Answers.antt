use Rattle.std.proofs.Common.{◌∙◌, refl}
use Rattle.pex_values.specs.Plain.{plain_state}
use Rattle.pex_listing.specs.Listing.{state}
use Rattle.pex_listing.specs.Spelled.{spelled_in}
use Rattle.pex_listing.specs.declared.faults.ShowFault.TheVariants.{OutOfMemory}
use Rattle.pex_listing.proofs.Writing.{all_shown, none_yet, part_shown, part_stops, wrote_err}
use Rattle.pex_listing.proofs.showing.show_states.Goals as goal

pub loop-state-init : goal.loop-state-init
loop-state-init g c = record { faults = refl; written = none_yet ((λ s. state (spelled_in c.args.names.now) (plain_state s))) c.args.states.now c.args.out.now.items _ _ refl }

pub returns-in_err-show_state-clause-written : goal.returns-in_err-show_state-clause-written
returns-in_err-show_state-clause-written g c =
    wrote_err _ _ c.from_residual.result _ _ c.from_residual.ensures.0
    (part_stops ((λ s. state (spelled_in c.args.names.now) (plain_state s))) c.args.states.now c.args.out.now.items OutOfMemory c.loop-state.state-index c.state-item.result c.loop-state.out.items _ _ _ c.loop-state-test.true c.state-item.is c.loop-state.invariant.written c.in_err-show_state.ensures.written)

pub loop-state-preserved : goal.loop-state-preserved
loop-state-preserved g c = record {
  faults = c.in_ok-show_state.ensures.faults ∙ c.loop-state.invariant.faults;
  written =
      part_shown ((λ s. state (spelled_in c.args.names.now) (plain_state s))) c.args.states.now c.args.out.now.items c.loop-state.state-index c.state-item.result c.loop-state.out.items _ _ _ _ c.loop-state-test.true c.state-item.is c.loop-state.invariant.written c.in_ok-show_state.ensures.written;
}

pub returns-clause-written : goal.returns-clause-written
returns-clause-written g c = all_shown ((λ s. state (spelled_in c.args.names.now) (plain_state s))) c.args.states.now c.args.out.now.items c.loop-state.state-index _ _ _ c.loop-state-test.false c.loop-state.invariant.written
