use Rattle.std.proofs.Common.{◌≡◌}
use Rattle.stack_machine.specs.Written.{AppendsLines}
use Rattle.scene_runner.proofs.closing.write_declared.Given as goal

abbrev pub invariant-loop-property : goal.invariant-loop-property
invariant-loop-property g l = record {
  faults : g.S.Sink.faults l.sink ≡ g.S.Sink.faults l.initial.sink;
  appended : AppendsLines (g.S.Sink.written l.initial.sink) (g.S.Sink.written l.sink);
}
