use Rattle.std.proofs.Common.{◌-◌, length}
use Rattle.papy_base.specs.Orders.{IsForest, IsOrder, AreReached}
use Rattle.papy_base.proofs.descent.reach.Given as goal

abbrev pub invariant-loop-reached : goal.invariant-loop-reached
invariant-loop-reached l = IsForest l.parents → IsOrder l.parents l.order → AreReached l.parents l.order l.fn.spans (length l.order) → AreReached l.parents l.order l.spans (length l.order - l.reached)
