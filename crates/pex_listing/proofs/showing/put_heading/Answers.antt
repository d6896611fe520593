use Rattle.std.proofs.Common.{append_assoc, rules}
use Rattle.std.proofs.lemmas.Result.{IfOk-equal}
use Rattle.pex_listing.specs.Listing.{heading}
use Rattle.pex_listing.proofs.showing.put_heading.Goals as goal

pub returns : goal.returns
unfolding heading
returns c = search (rules, IfOk-equal, append_assoc)
