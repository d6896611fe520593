use Rattle.papy_base.specs.Circles.{CanStart}
use Rattle.papy_base.proofs.CircleWalks.{OnWalk}
use Rattle.papy_base.proofs.descent.walk.Given as goal

abbrev pub invariant-loop : goal.invariant-loop
invariant-loop l =
    CanStart l.parents l.initial.walks l.start → OnWalk l.parents l.initial.walks l.start l.walks l.here l.counter
