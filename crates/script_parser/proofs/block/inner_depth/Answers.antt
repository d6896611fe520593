use Rattle.std.proofs.Common.{refl, inr, arith}
use Rattle.script_parser.proofs.block.inner_depth.Goals as goal

pub returns-in-None-clause-fault : goal.returns-in-None-clause-fault
returns-in-None-clause-fault c = λ lines b.
    (b.line.number, record { line = b.line; found = b.found; number_is = refl; deep = inr (b.begins, omega (arith, b.count)) })
