use Rattle.run_laws.proofs.Runs.{first_exclusive}
use Rattle.run_laws.proofs.exclusive.first_is_exclusive.Goals as goal

pub returns : goal.returns
returns g c = λ outline scene kinds. first_exclusive outline scene kinds
