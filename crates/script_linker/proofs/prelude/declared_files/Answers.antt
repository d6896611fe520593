use Rattle.std.proofs.Common.{arith}
use Rattle.script_linker.specs.Generated.{IsStandard}
use Rattle.script_linker.specs.Rows.{standard_of}
use Rattle.script_linker.proofs.GeneratedLemmas.{Pairwise-more}
use Rattle.script_linker.proofs.prelude.declared_files.Goals as goal

pub loop-row-preserved : goal.loop-row-preserved
loop-row-preserved c =
    Pairwise-more IsStandard standard_of c.args.rows.now c.loop-row.files.items c.push.new.self.items c.loop-row.row-index _ c.in_ok-declared_file.field-0 (omega arith) c.loop-row.invariant c.in_ok-push.ensures.items c.in_ok-declared_file.ensures
