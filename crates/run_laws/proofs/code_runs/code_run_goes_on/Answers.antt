use Rattle.run_laws.proofs.CodeRuns.{run_goes_on}
use Rattle.run_laws.proofs.code_runs.code_run_goes_on.Goals as goal

pub returns : goal.returns
returns c = λ outline scripts scene kinds turns. run_goes_on outline scripts scene kinds turns
