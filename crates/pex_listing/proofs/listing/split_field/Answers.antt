use Rattle.pex_listing.proofs.Leaving.{whole_before}
use Rattle.pex_listing.proofs.listing.split_field.Goals as goal

pub returns-in-None-clause-field : goal.returns-in-None-clause-field
returns-in-None-clause-field c = whole_before 32 c.args.bytes.now c.in-None.ensures.behind
