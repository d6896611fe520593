use Rattle.std.proofs.Common.{◌≡◌, All, length}
use Rattle.pex_verify.specs.Types.{IsValueTypeAmong}
use Rattle.pex_verify.specs.TypesMeant.{AreMeanings}
use Rattle.pex_verify.proofs.value_type.meanings_of_names.Given as goal

abbrev pub invariant-loop-number : goal.invariant-loop-number
invariant-loop-number l = record {
  among : All (IsValueTypeAmong (length l.objects)) l.meanings.items;
  count : length l.meanings.items ≡ l.number;
  meant : AreMeanings l.table l.objects l.number l.meanings.items;
}
