use Rattle.std.proofs.Common.{arith}
use Rattle.command_files.proofs.SourceSets.{as_many, link_refuses, types_refuse}
use Rattle.command_files.proofs.scripts.core_set.Goals as goal

pub returns-in-Err-clause-ends : goal.returns-in-Err-clause-ends
returns-in-Err-clause-ends c = rw c.link_ending.ensures (link_refuses c.args.files.items c.in-Err.fault c.in-Err.ensures.broken)

pub returns-in-Ok-elaborated-clause-scripts : goal.returns-in-Ok-elaborated-clause-scripts
returns-in-Ok-elaborated-clause-scripts c =
    let core = c.in-Ok-elaborated.core in
    omega (arith, as_many c.in-Ok.set core.scripts.items c.in-Ok-elaborated.ensures.heads, c.in-Ok.ensures.files.count, core.scripts.ok.0, c.args.files.ok.0)

pub returns-in-Err-elaborated-clause-ends : goal.returns-in-Err-elaborated-clause-ends
returns-in-Err-elaborated-clause-ends c =
    rw c.type_ending.ensures (types_refuse c.args.files.items _ c.in-Err-elaborated.fault c.in-Ok.ensures.files.count c.in-Err-elaborated.ensures.broken)
