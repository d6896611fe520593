use Rattle.listing_laws.proofs.Unrefused.{unbroken}
use Rattle.listing_laws.proofs.listings_break_no_rule.Goals as goal

pub returns : goal.returns
returns c = unbroken
