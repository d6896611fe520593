use Rattle.std.proofs.Common.{◌≡◌, ◌≤◌, ◌++◌, vec_len, length}
use Rattle.std.specs.Prelude.{option_map}
use Rattle.pex_listing.specs.Breaks.{AtByte, unquoted}
use Rattle.pex_listing.proofs.fields.unquote.Given as goal

abbrev pub invariant-loop-rest : goal.invariant-loop-rest
invariant-loop-rest l = record {
  short : vec_len l.bytes ≤ 65535;
  left : unquoted AtByte l.initial.rest ≡ option_map (λ t. l.bytes.items ++ t) (unquoted AtByte l.rest);
}

abbrev pub decreases-loop-rest : goal.decreases-loop-rest
decreases-loop-rest l = length l.rest
