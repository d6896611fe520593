use Rattle.std.proofs.Common.{◌≡◌, map, take}
use Rattle.body_runner.specs.Values.{number_in}
use Rattle.stack_machine.proofs.natives.numbers_of.Given as goal

abbrev pub invariant-loop-argument : goal.invariant-loop-argument
invariant-loop-argument l = l.numbers.items ≡ map number_in (take l.argument-index l.arguments)
