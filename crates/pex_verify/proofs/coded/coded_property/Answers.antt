use Rattle.pex_verify.specs.Coding.{outline_in}
use Rattle.pex_verify.proofs.Coding.{property_coded}
use Rattle.pex_verify.proofs.coded.coded_property.Goals as goal

pub returns : goal.returns
returns c = property_coded (outline_in c.args.scripts.now) c.args.property c.in_ok-read.read c.in_ok-write.write c.in_ok-read.ensures c.in_ok-write.ensures
