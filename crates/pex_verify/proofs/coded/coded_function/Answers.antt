use Rattle.pex_verify.specs.Coding.{outline_in}
use Rattle.pex_verify.proofs.Coding.{function_coded}
use Rattle.pex_verify.proofs.coded.coded_function.Goals as goal

pub returns : goal.returns
returns c = function_coded (outline_in c.args.scripts.now) c.args.function c.in_ok-code.code c.in_ok-code.ensures
