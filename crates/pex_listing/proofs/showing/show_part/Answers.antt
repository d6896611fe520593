use Rattle.std.proofs.Common.{refl}
use Rattle.pex_listing.proofs.Writing.{stops_at_once, wrote_as, wrote_err}
use Rattle.pex_listing.proofs.showing.show_part.Goals as goal

pub returns-in_err-put-clause-written : goal.returns-in_err-put-clause-written
returns-in_err-put-clause-written g c = wrote_err _ _ c.from_residual.result _ _ c.from_residual.ensures.0 (stops_at_once _ _ _ refl)

pub returns-clause-written : goal.returns-clause-written
returns-clause-written g c = wrote_as _ _ _ c.flush_part.result _ _ c.in_ok-put.ensures c.flush_part.ensures.written
