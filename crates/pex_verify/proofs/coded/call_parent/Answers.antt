use Rattle.code_meaning.specs.Code.{CallParent}
use Rattle.pex_verify.proofs.Coding.{arguments_same, same_three, taken}
use Rattle.pex_verify.proofs.coded.call_parent.Goals as goal

pub returns-clause-means : goal.returns-clause-means
returns-clause-means c =
    same_three CallParent _ _ _ _ _ _ c.in_ok-name.ensures.taken (taken _ _ _ c.value.ensures.taken (c.in_ok-name.ensures.rest 0)) (arguments_same _ _ c.in_ok-arguments.ensures)
