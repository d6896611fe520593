use Rattle.std.specs.List.{AllZip}
use Rattle.pex_verify.specs.Coding.{CodesFunction, outline_in}
use Rattle.pex_verify.proofs.coded.coded_functions.Given as goal

abbrev pub invariant-loop-function : goal.invariant-loop-function
invariant-loop-function l = AllZip (CodesFunction (outline_in l.scripts)) l.yielded l.coded.items
