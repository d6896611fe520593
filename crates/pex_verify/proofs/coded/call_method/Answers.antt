use Rattle.std.proofs.Common.{◌∙◌}
use Rattle.code_meaning.specs.Code.{CallMethod}
use Rattle.pex_verify.proofs.Coding.{arguments_same, same_four, taken}
use Rattle.pex_verify.proofs.coded.call_method.Goals as goal

pub returns-clause-means : goal.returns-clause-means
returns-clause-means c =
    same_four CallMethod _ _ _ _ _ _ _ _ c.in_ok-name.ensures.taken
    (taken _ _ _ c.value.ensures.taken (c.in_ok-name.ensures.rest 0))
    (taken _ _ _ c.value-2.ensures.taken (c.value.ensures.rest 0 ∙ c.in_ok-name.ensures.rest 1))
    (arguments_same _ _ c.in_ok-arguments.ensures)
