use Rattle.stack_machine.specs.Standing.{IsSameSize, StandAtMost}
use Rattle.stack_machine.proofs.restore.sleep_all.Given as goal

abbrev pub invariant-loop-sleeper : goal.invariant-loop-sleeper
invariant-loop-sleeper l = record {
  stand : StandAtMost l.started l.places;
  size : IsSameSize l.fn.places l.places;
}
