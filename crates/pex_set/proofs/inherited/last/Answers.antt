use Rattle.std.proofs.Common.{◌∙◌}
use Rattle.pex_set.proofs.Stretches.{last_or-last}
use Rattle.pex_set.proofs.inherited.last.Goals as goal

pub returns : goal.returns
returns c = c.copied.ensures ∙ c.last.ensures.value ∙ last_or-last c.args.stretches.now
