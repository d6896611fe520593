use Rattle.run_laws.proofs.CodeRuns.{run_exclusive}
use Rattle.run_laws.proofs.code_runs.code_run_is_exclusive.Goals as goal

pub returns : goal.returns
returns c = λ outline scripts scene kinds turns. run_exclusive outline scripts scene kinds turns
