use Rattle.stack_machine.specs.Standing.{IsSameSize, StandAtMost}
use Rattle.stack_machine.proofs.restore.end_all.Given as goal

abbrev pub invariant-loop-number : goal.invariant-loop-number
invariant-loop-number l = record {
  stand : StandAtMost l.started l.places;
  size : IsSameSize l.fn.places l.places;
}
