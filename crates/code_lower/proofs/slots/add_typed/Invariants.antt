use Rattle.std.proofs.Common.{◌≡◌, ◌++◌, take}
use Rattle.run_laws.specs.Fits.{typed}
use Rattle.code_lower.proofs.slots.add_typed.Given as goal

abbrev pub invariant-loop-kind : goal.invariant-loop-kind
invariant-loop-kind l = l.kinds.items ≡ l.initial.kinds.items ++ typed (take l.kind-index l.more)
