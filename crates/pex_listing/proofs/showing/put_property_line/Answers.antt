use Rattle.std.proofs.Common.{append_assoc, rules}
use Rattle.pex_listing.specs.Listing.{property_line}
use Rattle.pex_listing.proofs.showing.put_property_line.Goals as goal

pub returns : goal.returns
unfolding property_line
returns c = search (rules, append_assoc)
