use Rattle.std.proofs.Common.{ap}
use Rattle.papy_io.specs.MemorySink.{SinkState}
use Rattle.run_commands.proofs.SampleParts.{closing_alone}
use Rattle.run_commands.proofs.sample_command.closing_of.Goals as goal

pub returns-clause-closes : goal.returns-clause-closes
returns-clause-closes g c = closing_alone _ _ _ (ap (λ (sink : SinkState). sink.written) c.new-closing.ensures) c.in_ok-write_closing.ensures.closes
