-- The scripts so far are noted.
use Rattle.std.proofs.Common.{take}
use Rattle.script_linker.specs.Lookup.{script_name}
use Rattle.papy_base.specs.Table.{IsPlaceTable}
use Rattle.type_scope.proofs.catalog.Catalog.new.Given as goal

abbrev pub invariant-loop-number : goal.invariant-loop-number
invariant-loop-number l = IsPlaceTable script_name (take l.number l.set) l.numbers
