use Rattle.std.proofs.Common.{◌≡◌, map, take}
use Rattle.pex_values.specs.Plain.{plain_named}
use Rattle.pex_set.specs.Rows.{named_in}
use Rattle.pex_set.proofs.prelude.functions.Given as goal

abbrev pub invariant-loop-row : goal.invariant-loop-row
invariant-loop-row l = map plain_named l.functions.items ≡ map (named_in l.strings) (take l.row-index l.rows)
