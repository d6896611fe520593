use Rattle.run_laws.proofs.Runs.{first_exclusive, states_exclusive}
use Rattle.run_laws.proofs.exclusive.run_is_exclusive.Goals as goal

pub returns : goal.returns
returns g c = λ scene engine outline kinds turns. states_exclusive scene engine turns _ (first_exclusive outline scene kinds)
