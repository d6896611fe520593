use Rattle.pex_listing.proofs.OneValue.{one_value}
use Rattle.pex_listing.proofs.laws.one_value.Goals as goal

pub returns : goal.returns
returns c = one_value
