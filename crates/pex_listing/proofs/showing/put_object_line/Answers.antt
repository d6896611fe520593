use Rattle.std.proofs.Common.{append_assoc, rules}
use Rattle.pex_listing.specs.Listing.{object_line}
use Rattle.pex_listing.proofs.showing.put_object_line.Goals as goal

pub returns : goal.returns
unfolding object_line
returns c = search (rules, append_assoc)
