use Rattle.std.proofs.Common.{◌<◌, length, arith, ◌∙◌}
use Rattle.pex_set.specs.Rows.{parameter_in}
use Rattle.pex_set.proofs.Made.{listed_more}
use Rattle.pex_set.proofs.prelude.parameters.Goals as goal

pub loop-row-preserved : goal.loop-row-preserved
loop-row-preserved c =
    let less : c.loop-row.row-index < length c.args.rows.now = omega arith in
    c.in_ok-push.ensures.items
    ∙ listed_more (parameter_in c.args.strings.now) c.loop-row.parameters.items _ c.args.rows.now c.loop-row.row-index _ less c.loop-row.invariant (λ k. (c.reference.ensures k, c.reference-in-loop-row.ensures k))
