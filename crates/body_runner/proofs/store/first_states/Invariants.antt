use Rattle.std.proofs.Common.{◌≡◌, vec_len}
use Rattle.body_runner.proofs.store.first_states.Given as goal

abbrev pub invariant-loop-instance : goal.invariant-loop-instance
invariant-loop-instance l = vec_len l.states ≡ l.instance
