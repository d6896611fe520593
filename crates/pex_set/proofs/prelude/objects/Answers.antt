use Rattle.std.proofs.Common.{◌<◌, length, map, arith, ap, ◌∙◌}
use Rattle.std.proofs.lemmas.Grind.{common_steps}
use Rattle.pex_values.specs.Plain.{plain_object}
use Rattle.pex_set.specs.Rows.{object_in}
use Rattle.pex_set.proofs.Made.{made_more}
use Rattle.pex_set.proofs.prelude.objects.Goals as goal

pub loop-row-preserved : goal.loop-row-preserved
loop-row-preserved c =
    let less : c.loop-row.row-index < length c.args.rows.now = omega arith in
    record {
      plain = grind (arith, common_steps);
      objects = ap (map plain_object) c.in_ok-push.ensures.items
          ∙ made_more plain_object (object_in c.args.strings.now) c.loop-row.objects.items _ c.args.rows.now c.loop-row.row-index _ less c.loop-row.invariant.objects c.in_ok-object.ensures.object;
    }
