use Rattle.std.proofs.Common.{◌≡◌, ◌<◌, ℕ}
use Rattle.stack_places.specs.Places.{standings}
use Rattle.stack_machine.proofs.restore.all_stand.Given as goal

abbrev pub invariant-loop-stack : goal.invariant-loop-stack
invariant-loop-stack l = (k : ℕ) → k < l.stack → standings l.places.lists k ≡ 1
