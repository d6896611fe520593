-- The scripts so far are those of their rows.
use Rattle.std.proofs.Common.{map, take}
use Rattle.script_linker.specs.Generated.{AreStandard}
use Rattle.script_linker.specs.Rows.{standard_of}
use Rattle.script_linker.proofs.prelude.declared_files.Given as goal

abbrev pub invariant-loop-row : goal.invariant-loop-row
invariant-loop-row l = AreStandard (map standard_of (take l.row-index l.rows)) l.files.items
