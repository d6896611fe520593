use Rattle.stack_machine.specs.Standing.{IsSameSize, StandAtMost}
use Rattle.stack_machine.proofs.restore.wait_all.Given as goal

abbrev pub invariant-loop-waiter : goal.invariant-loop-waiter
invariant-loop-waiter l = record {
  stand : StandAtMost l.started l.places;
  size : IsSameSize l.fn.places l.places;
}
