use Rattle.pex_verify.specs.Coding.{outline_in}
use Rattle.pex_verify.proofs.Coding.{script_coded}
use Rattle.pex_verify.proofs.coded.coded_script.Goals as goal

pub returns : goal.returns
returns c = script_coded (outline_in c.args.scripts.now) c.args.script c.in_ok-properties.properties c.in_ok-states.states c.in_ok-properties.ensures c.in_ok-states.ensures
