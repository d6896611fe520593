use Rattle.std.proofs.Common.{◌∙◌}
use Rattle.pex_verify.proofs.Coding.{three_taken}
use Rattle.pex_verify.proofs.coded.with_three.Goals as goal

pub returns-clause-means : goal.returns-clause-means
returns-clause-means c =
    c.three.ensures.means
    ∙ three_taken c.args.form _ _ _ _ _ _ _ _ c.value-first.ensures.taken c.value-second.ensures.taken (c.value-first.ensures.rest 0)
    c.value-third.ensures.taken (c.value-second.ensures.rest 0 ∙ c.value-first.ensures.rest 1)
