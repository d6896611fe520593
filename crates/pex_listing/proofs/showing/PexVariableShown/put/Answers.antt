use Rattle.std.proofs.Common.{append_assoc, rules}
use Rattle.pex_listing.specs.Listing.{variable}
use Rattle.pex_listing.proofs.showing.PexVariableShown.put.Goals as goal

pub returns : goal.returns
unfolding variable
returns c = search (rules, append_assoc)
