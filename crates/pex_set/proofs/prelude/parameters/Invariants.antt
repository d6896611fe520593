use Rattle.std.proofs.Common.{◌≡◌, map, take}
use Rattle.pex_set.specs.Rows.{parameter_in}
use Rattle.pex_set.proofs.prelude.parameters.Given as goal

abbrev pub invariant-loop-row : goal.invariant-loop-row
invariant-loop-row l = l.parameters.items ≡ map (parameter_in l.strings) (take l.row-index l.rows)
