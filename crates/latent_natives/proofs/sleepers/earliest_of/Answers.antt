use Rattle.std.proofs.Common.{arith, subst}
use Rattle.latent_natives.specs.SleepTree.{NotBefore}
use Rattle.latent_natives.proofs.SleepLists.{not_before-append, not_before-less}
use Rattle.latent_natives.proofs.sleepers.earliest_of.Goals as goal

pub returns-in-Two : goal.returns-in-Two
returns-in-Two c =
    let left = subst (NotBefore c.earliest.result) c.deref.ensures c.earliest.ensures in
    let right = subst (NotBefore c.earliest-in-Two.result) c.deref-in-Two.ensures c.earliest-in-Two.ensures in
    rw c.in-Two.is (not_before-append c.min.result c.in-Two.left.value c.in-Two.right.value (not_before-less c.min.result c.earliest.result c.in-Two.left.value (grind arith) left) (not_before-less c.min.result c.earliest-in-Two.result c.in-Two.right.value (grind arith) right))
