-- The types so far are there, and there is room for the rest.
use Rattle.std.proofs.Common.{◌≡◌, length, map, take, vec_len, vec_capacity}
use Rattle.type_rules.specs.Ranges.{known}
use Rattle.type_rules.proofs.functions.known_types.Given as goal

abbrev pub invariant-loop-kind : goal.invariant-loop-kind
invariant-loop-kind l = record {
  types : l.found.items ≡ map known (take l.kind-index l.kinds);
  count : vec_len l.found ≡ l.kind-index;
  room : vec_capacity l.found ≡ length l.kinds;
}
