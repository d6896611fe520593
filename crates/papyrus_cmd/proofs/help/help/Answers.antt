use Rattle.std.proofs.Common.{refl}
use Rattle.papyrus_cmd.specs.Help.{help_text}
use Rattle.papyrus_cmd.proofs.help.help.Goals as goal

pub returns : goal.returns
unfolding help_text
returns c = refl
