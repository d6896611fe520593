use Rattle.std.specs.List.{AllZip}
use Rattle.pex_verify.specs.Coding.{CodesInstruction, outline_in}
use Rattle.pex_verify.proofs.coded.coded_code.Given as goal

abbrev pub invariant-loop-instruction : goal.invariant-loop-instruction
invariant-loop-instruction l = AllZip (CodesInstruction (outline_in l.scripts)) l.yielded l.coded.items
