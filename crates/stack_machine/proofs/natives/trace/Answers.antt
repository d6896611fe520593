use Rattle.std.proofs.Common.{◌∙◌}
use Rattle.stack_machine.proofs.Sinks.{trace_written}
use Rattle.stack_machine.proofs.natives.trace.Goals as goal

pub returns-clause-appended : goal.returns-clause-appended
returns-clause-appended g c = trace_written c.args.turn.now.stack c.in-Some-Text.text _ _ _ (c.as_slice.ensures.value ∙ c.in_ok-line.ensures) c.in_ok-write.ensures.written
