use Rattle.std.proofs.Common.{◌∙◌, ap}
use Rattle.code_meaning.specs.Code.{CallStatic}
use Rattle.pex_verify.specs.Coding.{outline_in}
use Rattle.pex_verify.specs.JudgedCode.{script_named}
use Rattle.pex_verify.proofs.Coding.{arguments_same, name_taken, same_four, taken}
use Rattle.pex_verify.proofs.coded.call_static.Goals as goal

pub returns-clause-means : goal.returns-clause-means
returns-clause-means c =
    same_four CallStatic _ _ _ _ _ _ _ _ (c.in_ok-script-2.ensures ∙ ap (script_named (outline_in c.args.scripts.now)) c.in_ok-script.ensures.taken)
    (name_taken _ _ _ c.in_ok-name.ensures.taken (c.in_ok-script.ensures.rest 0))
    (taken _ _ _ c.value.ensures.taken (c.in_ok-name.ensures.rest 0 ∙ c.in_ok-script.ensures.rest 1))
    (arguments_same _ _ c.in_ok-arguments.ensures)
