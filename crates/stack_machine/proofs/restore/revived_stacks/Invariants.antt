use Rattle.std.proofs.Common.{◌≡◌, vec_len}
use Rattle.stack_machine.proofs.restore.revived_stacks.Given as goal

abbrev pub invariant-loop-place : goal.invariant-loop-place
invariant-loop-place l = vec_len l.stacks ≡ l.place
