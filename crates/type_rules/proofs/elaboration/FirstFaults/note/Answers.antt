use Rattle.std.proofs.Common.{arith}
use Rattle.type_rules.proofs.elaboration.FirstFaults.note.Goals as goal

pub returns-clause-too_large_below : goal.returns-clause-too_large_below
returns-clause-too_large_below c = λ count within before.
    c.earlier-too_large.ensures.below count before (c.too_large_in.ensures.below count (omega arith))
