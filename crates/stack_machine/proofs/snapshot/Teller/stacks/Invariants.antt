use Rattle.std.proofs.Common.{◌≡◌, vec_len}
use Rattle.stack_machine.proofs.snapshot.Teller.stacks.Given as goal

abbrev pub invariant-loop-stack : goal.invariant-loop-stack
invariant-loop-stack l = vec_len l.told ≡ l.stack-index
