use Rattle.std.proofs.Common.{rules}
use Rattle.run_commands.specs.Sample.{hub_text}
use Rattle.run_commands.proofs.sample_scripts.hub.Goals as goal

pub returns : goal.returns
unfolding hub_text
returns c = search rules
