use Rattle.pex_verify.proofs.OutlinesMeant.{outlines_meant, outlines_ready}
use Rattle.pex_verify.proofs.outlines_meant.verified_outlines_are_as_meant.Goals as goal

pub returns-clause-meant : goal.returns-clause-meant
returns-clause-meant c = λ set whole. outlines_meant whole.judged

pub returns-clause-ready : goal.returns-clause-ready
returns-clause-ready c = λ set whole. outlines_ready whole.judged
