use Rattle.std.proofs.Common.{◌≡◌, map, take}
use Rattle.pex_values.specs.declared.values.Datum.TheVariants.{Word}
use Rattle.pex_set.specs.Rows.{reference_in}
use Rattle.pex_set.proofs.prelude.instruction.Given as goal

abbrev pub invariant-loop-name : goal.invariant-loop-name
invariant-loop-name l = l.fixed.items ≡ map (λ name. Word (reference_in l.strings name.now)) (take l.name-index l.names)
