use Rattle.std.proofs.Common.{vec_len}
use Rattle.pex_set.specs.Sweep.{AreMoved}
use Rattle.pex_set.proofs.inherited.Sweep.close.Given as goal

abbrev pub invariant-loop-end : goal.invariant-loop-end
invariant-loop-end l =
    AreMoved l.position l.initial.self.stretches.items l.initial.self.ends.items l.self.stretches.items l.self.ends.items

abbrev pub decreases-loop-end : goal.decreases-loop-end
decreases-loop-end l = vec_len l.self.ends
