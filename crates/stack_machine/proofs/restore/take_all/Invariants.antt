use Rattle.stack_machine.specs.Standing.{IsSameSize, StandAtMost}
use Rattle.stack_machine.proofs.restore.take_all.Given as goal

abbrev pub invariant-loop-owner : goal.invariant-loop-owner
invariant-loop-owner l = record {
  stand : StandAtMost l.started l.places;
  size : IsSameSize l.fn.places l.places;
}
