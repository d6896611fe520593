use Rattle.run_laws.proofs.Runs.{some_ready}
use Rattle.run_laws.proofs.exclusive.some_stack_is_ready.Goals as goal

pub returns : goal.returns
returns g c = λ state e k started not_done not_asleep. some_ready state k e started not_done not_asleep
