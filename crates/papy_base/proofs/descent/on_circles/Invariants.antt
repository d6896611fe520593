use Rattle.papy_base.specs.Circles.{AreSearched}
use Rattle.papy_base.specs.Lineage.{AreAmong}
use Rattle.papy_base.proofs.descent.on_circles.Given as goal

abbrev pub invariant-loop-start : goal.invariant-loop-start
invariant-loop-start l = AreAmong l.parents → AreSearched l.parents l.walks.items l.is_above_itself.items l.start
