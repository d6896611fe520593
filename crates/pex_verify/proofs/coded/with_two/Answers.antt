use Rattle.std.proofs.Common.{◌∙◌}
use Rattle.pex_verify.proofs.Coding.{two_taken}
use Rattle.pex_verify.proofs.coded.with_two.Goals as goal

pub returns-clause-means : goal.returns-clause-means
returns-clause-means c =
    c.two.ensures.means ∙ two_taken c.args.form _ _ _ _ _ c.value-first.ensures.taken c.value-second.ensures.taken (c.value-first.ensures.rest 0)
