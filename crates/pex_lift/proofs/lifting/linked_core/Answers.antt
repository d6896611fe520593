use Rattle.pex_lift.proofs.Accepted.{has_core}
use Rattle.pex_lift.proofs.lifting.linked_core.Goals as goal

pub returns : goal.returns
returns c = has_core c.args.sources.items c.in_ok-set.set c.core_of-core.result c.in_ok-set.ensures c.core_of-core.ensures
