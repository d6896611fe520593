use Rattle.std.proofs.Common.{refl}
use Rattle.papyrus_cmd.specs.Help.{version_text}
use Rattle.papyrus_cmd.proofs.help.version.Goals as goal

pub returns : goal.returns
unfolding version_text
returns c = refl
