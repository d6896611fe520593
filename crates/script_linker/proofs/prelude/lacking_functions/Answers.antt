use Rattle.std.proofs.Common.{arith}
use Rattle.script_linker.proofs.GeneratedLemmas.{lacking-more}
use Rattle.script_linker.proofs.prelude.lacking_functions.Goals as goal

pub loop-row-preserved : goal.loop-row-preserved
loop-row-preserved c =
    lacking-more c.args.functions.now c.args.rows.now c.loop-row.row-index _ c.loop-row.added.items c.add_lacking.new.added.items c.in_ok-declared_function.field-0 (omega arith) c.loop-row.invariant c.in_ok-add_lacking.ensures c.in_ok-declared_function.ensures
