use Rattle.std.proofs.Common.{◌≡◌, ◌++◌, take}
use Rattle.std.specs.List.{flat_map}
use Rattle.pex_listing.specs.Listing.{pair}
use Rattle.pex_listing.specs.Spelled.{spelled_in}
use Rattle.pex_listing.proofs.showing.put_pairs.Given as goal

abbrev pub invariant-loop-pair : goal.invariant-loop-pair
invariant-loop-pair l = l.out.items ≡ l.initial.out.items ++ flat_map (pair (spelled_in l.names) l.word) (take l.pair-index l.pairs)
