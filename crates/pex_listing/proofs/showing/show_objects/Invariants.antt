use Rattle.std.proofs.Common.{◌≡◌, ◌++◌, take}
use Rattle.std.specs.List.{flat_map}
use Rattle.pex_values.specs.Plain.{plain_object}
use Rattle.pex_listing.specs.Listing.{object}
use Rattle.pex_listing.specs.Showing.{HoldsBack}
use Rattle.pex_listing.specs.Spelled.{spelled_in}
use Rattle.pex_listing.proofs.showing.show_objects.Given as goal

abbrev pub invariant-loop-object : goal.invariant-loop-object
invariant-loop-object g l = record {
  faults : g.S.Sink.faults l.sink ≡ g.S.Sink.faults l.initial.sink;
  written : HoldsBack (l.initial.out.items ++ flat_map (λ o. object (spelled_in l.names) (plain_object o)) (take l.object-index l.objects)) l.out.items (g.S.Sink.written l.initial.sink) (g.S.Sink.written l.sink);
}
