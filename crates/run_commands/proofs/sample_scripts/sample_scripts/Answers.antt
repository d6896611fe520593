use Rattle.command_files.specs.SourceTexts.{text_of}
use Rattle.run_commands.specs.Sample.{hub_text, worker_text}
use Rattle.run_commands.proofs.SampleParts.{one_more_behind}
use Rattle.run_commands.proofs.sample_scripts.sample_scripts.Goals as goal

pub loop-number-preserved : goal.loop-number-preserved
loop-number-preserved c =
    one_more_behind text_of worker_text hub_text c.loop-number.scripts.items c.push-in-loop-number.new.self.items c.in_ok-worker.field-0 c.loop-number.number c.in_ok-push-2.ensures.items c.loop-number.invariant c.in_ok-worker.ensures
