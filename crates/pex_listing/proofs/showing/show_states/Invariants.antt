use Rattle.std.proofs.Common.{◌≡◌, ◌++◌, take}
use Rattle.std.specs.List.{flat_map}
use Rattle.pex_values.specs.Plain.{plain_state}
use Rattle.pex_listing.specs.Listing.{state}
use Rattle.pex_listing.specs.Showing.{HoldsBack}
use Rattle.pex_listing.specs.Spelled.{spelled_in}
use Rattle.pex_listing.proofs.showing.show_states.Given as goal

abbrev pub invariant-loop-state : goal.invariant-loop-state
invariant-loop-state g l = record {
  faults : g.S.Sink.faults l.sink ≡ g.S.Sink.faults l.initial.sink;
  written : HoldsBack (l.initial.out.items ++ flat_map (λ s. state (spelled_in l.names) (plain_state s)) (take l.state-index l.states)) l.out.items (g.S.Sink.written l.initial.sink) (g.S.Sink.written l.sink);
}
