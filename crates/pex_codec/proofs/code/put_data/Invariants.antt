use Rattle.std.proofs.Common.{◌≡◌, ◌++◌, take}
use Rattle.std.specs.List.{flat_map}
use Rattle.pex_values.specs.Spelling as spell
use Rattle.pex_codec.proofs.code.put_data.Given as goal

abbrev pub invariant-loop-datum : goal.invariant-loop-datum
invariant-loop-datum l = l.out.items ≡ l.initial.out.items ++ flat_map spell.datum (take l.datum-index l.data)
