use Rattle.std.specs.List.{AllZip}
use Rattle.pex_verify.specs.Coding.{CodesOperand}
use Rattle.pex_verify.proofs.coded.coded_operands.Given as goal

abbrev pub invariant-loop-operand : goal.invariant-loop-operand
invariant-loop-operand l = AllZip CodesOperand l.yielded l.coded.items
