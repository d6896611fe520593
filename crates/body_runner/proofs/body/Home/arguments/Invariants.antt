use Rattle.std.proofs.Common.{◌≡◌, map, take}
use Rattle.body_runner.specs.Operands.{worth}
use Rattle.body_runner.proofs.body.Home.arguments.Given as goal

abbrev pub invariant-loop-operand : goal.invariant-loop-operand
invariant-loop-operand l = l.values.items ≡ map (worth l.self l.inner) (take l.operand-index l.operands)
