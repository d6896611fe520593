use Rattle.std.proofs.Common.{◌∙◌}
use Rattle.pex_set.proofs.Positions.{is_up_to-partial}
use Rattle.pex_set.proofs.inherited.is_up_to.Goals as goal

pub returns : goal.returns
returns c = c.le.ensures ∙ is_up_to-partial c.args.position c.args.other
