use Rattle.std.proofs.Common.{take}
use Rattle.pex_set.specs.Sweep.{AreInOrder, IsOrdered, IsSwept}
use Rattle.pex_set.proofs.inherited.swept.Given as goal

abbrev pub invariant-loop-member : goal.invariant-loop-member
invariant-loop-member l = record {
  ordered : IsOrdered (take l.member-index l.members) l.sweep.stretches.items l.sweep.ends.items;
  swept : AreInOrder l.members → IsSwept (take l.member-index l.members) l.sweep.stretches.items l.sweep.ends.items;
}
