use Rattle.papy_base.specs.Orders.{AreLinked}
use Rattle.papy_base.proofs.descent.Links.of.Given as goal

abbrev pub invariant-loop-object : goal.invariant-loop-object
invariant-loop-object l = AreLinked l.parents l.object l.last.items l.before.items
