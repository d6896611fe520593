use Rattle.std.proofs.Common.{take}
use Rattle.papy_base.specs.Table.{IsPlaceTable}
use Rattle.papy_base.proofs.name_table.NameTable.of_places.Given as goal

abbrev pub invariant-loop-place : goal.invariant-loop-place
invariant-loop-place g l = IsPlaceTable g.T.Named.name_of (take l.place l.things) l.table
