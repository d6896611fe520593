use Rattle.std.proofs.Common.{◌≡◌, All, map, take}
use Rattle.pex_values.specs.Plain.{plain_object}
use Rattle.pex_set.specs.Plain.{HasNoProperties}
use Rattle.pex_set.specs.Rows.{object_in}
use Rattle.pex_set.proofs.prelude.objects.Given as goal

abbrev pub invariant-loop-row : goal.invariant-loop-row
invariant-loop-row l = record {
  plain : All HasNoProperties l.objects.items;
  objects : map plain_object l.objects.items ≡ map (object_in l.strings) (take l.row-index l.rows);
}
