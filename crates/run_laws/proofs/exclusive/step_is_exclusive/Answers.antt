use Rattle.run_laws.proofs.Runs.{step_exclusive}
use Rattle.run_laws.proofs.exclusive.step_is_exclusive.Goals as goal

pub returns : goal.returns
returns g c = λ scene engine state e. step_exclusive scene engine state e
