use Rattle.std.proofs.Common.{append_assoc, rules}
use Rattle.pex_listing.specs.Listing.{lines}
use Rattle.pex_listing.proofs.showing.PexLinesShown.put.Goals as goal

pub returns : goal.returns
unfolding lines
returns c = search (rules, append_assoc)
