use Rattle.std.proofs.Common.{◌<◌, length, map, arith, ap, ◌∙◌}
use Rattle.pex_values.specs.Plain.{plain_named}
use Rattle.pex_set.specs.Rows.{named_in}
use Rattle.pex_set.proofs.Made.{made_more}
use Rattle.pex_set.proofs.prelude.functions.Goals as goal

pub loop-row-preserved : goal.loop-row-preserved
loop-row-preserved c =
    let less : c.loop-row.row-index < length c.args.rows.now = omega arith in
    ap (map plain_named) c.in_ok-push.ensures.items
    ∙ made_more plain_named (named_in c.args.strings.now) c.loop-row.functions.items _ c.args.rows.now c.loop-row.row-index _ less c.loop-row.invariant (λ k. (c.reference.ensures k, c.in_ok-function.ensures k))
