use Rattle.std.proofs.Common.{map, take}
use Rattle.script_linker.specs.Generated.{AreMembers}
use Rattle.script_linker.specs.Rows.{lacking_among, member_of}
use Rattle.script_linker.proofs.prelude.lacking_functions.Given as goal

abbrev pub invariant-loop-row : goal.invariant-loop-row
invariant-loop-row l = AreMembers (lacking_among (map member_of (take l.row-index l.rows)) l.functions) l.added.items
