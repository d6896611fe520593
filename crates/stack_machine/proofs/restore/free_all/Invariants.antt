use Rattle.stack_machine.specs.Standing.{IsSameSize, StandAtMost}
use Rattle.stack_machine.proofs.restore.free_all.Given as goal

abbrev pub invariant-loop-stack : goal.invariant-loop-stack
invariant-loop-stack l = record {
  stand : StandAtMost l.started l.places;
  size : IsSameSize l.fn.places l.places;
}
