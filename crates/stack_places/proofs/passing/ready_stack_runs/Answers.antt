use Rattle.stack_places.proofs.InTurn.{runs_taken}
use Rattle.stack_places.proofs.passing.ready_stack_runs.Goals as goal

pub returns : goal.returns
returns g c = λ state k after e ready m. runs_taken state k after e ready m
