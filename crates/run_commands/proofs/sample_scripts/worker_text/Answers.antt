use Rattle.std.proofs.Common.{rules}
use Rattle.run_commands.specs.Sample.{worker_text}
use Rattle.run_commands.proofs.sample_scripts.worker_text.Goals as goal

pub returns : goal.returns
unfolding worker_text
returns c = search rules
