use Rattle.std.proofs.Common.{arith}
use Rattle.pex_alike.proofs.Lists.{each_length}
use Rattle.pex_lift.specs.Lifted.{IsRead}
use Rattle.pex_lift.proofs.Accepted.{compile_to}
use Rattle.pex_lift.proofs.lifting.compiled.Goals as goal

pub linked_core-requires : goal.linked_core-requires
linked_core-requires c =
    let same = each_length IsRead c.args.texts.now c.in_ok-sources.sources.items c.in_ok-sources.ensures in omega (arith, same)

pub returns : goal.returns
returns c = compile_to c.args.texts.now c.in_ok-sources.sources.items c.in_ok-core.core c.values_of-values.result c.in_ok-sources.ensures c.in_ok-core.ensures c.values_of-values.ensures
