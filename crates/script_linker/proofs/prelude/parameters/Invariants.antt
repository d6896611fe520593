use Rattle.std.proofs.Common.{◌≡◌, map, take}
use Rattle.script_linker.specs.Rows.{parameter_of}
use Rattle.script_linker.proofs.prelude.parameters.Given as goal

abbrev pub invariant-loop-row : goal.invariant-loop-row
invariant-loop-row l = l.parameters.items ≡ map parameter_of (take l.row-index l.rows)
