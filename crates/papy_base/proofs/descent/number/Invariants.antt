use Rattle.std.proofs.Common.{◌≡◌, length}
use Rattle.papy_base.specs.Orders.{IsOrder}
use Rattle.papy_base.proofs.ReachLemmas.{AreNumbered}
use Rattle.papy_base.proofs.descent.number.Given as goal

abbrev pub invariant-loop-rank : goal.invariant-loop-rank
invariant-loop-rank l = record {
  count : length l.spans ≡ length l.parents;
  numbered : IsOrder l.parents l.order → AreNumbered l.order l.spans l.rank;
}
