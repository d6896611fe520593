use Rattle.std.proofs.Common.{◌≡◌, ◌+◌, ◌++◌, All, map, take, vec_len}
use Rattle.pex_verify.specs.Matching.{parameter_type, parameter_types}
use Rattle.pex_verify.specs.Types.{IsTypeAmong}
use Rattle.pex_verify.proofs.function.load_parameters.Given as goal

abbrev pub invariant-loop-pair : goal.invariant-loop-pair
invariant-loop-pair l =
    (vec_len l.slots.list ≡ vec_len l.fn.slots.list + vec_len l.parameters) × All (λ p. IsTypeAmong (vec_len l.home.set.now.heads) p.1) l.parameters.items × (l.slots.list.items ≡ l.fn.slots.list.items ++ map parameter_type l.parameters.items) × (map parameter_type l.parameters.items ≡ parameter_types l.home.set.now.types l.source.names.now (take l.pair-index l.pairs))
