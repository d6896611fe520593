use Rattle.std.proofs.Common.{take}
use Rattle.pex_lift.specs.Lifted.{IsRead}
use Rattle.pex_alike.specs.SameCode.{SameEach}
use Rattle.pex_lift.proofs.lifting.sources_of.Given as goal

abbrev pub invariant-loop-text : goal.invariant-loop-text
invariant-loop-text l = SameEach IsRead (take l.text-index l.texts) l.sources.items
