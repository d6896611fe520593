use Rattle.std.proofs.Common.{◌∙◌}
use Rattle.stack_machine.proofs.Runs.{wrote}
use Rattle.stack_machine.proofs.Sinks.{fault_written}
use Rattle.stack_machine.proofs.run.refuse.Goals as goal

pub returns-clause-appended : goal.returns-clause-appended
returns-clause-appended g c = fault_written _ _ _ _ _ _ _ _ (c.as_slice.ensures.value ∙ c.in_ok-line.ensures) c.in_ok-write.ensures.written

pub returns-clause-prints : goal.returns-clause-prints
returns-clause-prints g c = wrote c.args.home.now c.args.place c.args.fault c.as_slice.result.now _ _ (c.as_slice.ensures.value ∙ c.in_ok-line.ensures) c.in_ok-write.ensures.written
