use Rattle.std.proofs.Common.{◌≡◌, ◌++◌, take}
use Rattle.std.specs.List.{flat_map}
use Rattle.pex_listing.specs.Showing.{HoldsBack}
use Rattle.pex_listing.specs.Spelled.{spelled_in}
use Rattle.pex_listing.proofs.showing.show_all.Given as goal

abbrev pub invariant-loop-part : goal.invariant-loop-part
invariant-loop-part g l = record {
  faults : g.S.Sink.faults l.sink ≡ g.S.Sink.faults l.initial.sink;
  written : HoldsBack (l.initial.out.items ++ flat_map (g.T.Shown.text (spelled_in l.names)) (take l.part-index l.parts)) l.out.items (g.S.Sink.written l.initial.sink) (g.S.Sink.written l.sink);
}
