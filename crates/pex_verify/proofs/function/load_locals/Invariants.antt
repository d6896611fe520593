use Rattle.std.proofs.Common.{◌≡◌, ◌+◌, ◌++◌, All, IfSome, map, take, vec_len}
use Rattle.pex_verify.specs.Matching.{local_type, local_types}
use Rattle.pex_verify.specs.Types.{IsTypeAmong}
use Rattle.pex_verify.proofs.function.load_locals.Given as goal

abbrev pub invariant-loop-pair : goal.invariant-loop-pair
invariant-loop-pair l =
    (vec_len l.slots.list ≡ vec_len l.fn.slots.list + vec_len l.locals) × All (λ local. IfSome local.1 (IsTypeAmong (vec_len l.home.set.now.heads))) l.locals.items × (l.slots.list.items ≡ l.fn.slots.list.items ++ map local_type l.locals.items) × (map local_type l.locals.items ≡ local_types l.home.set.now.types l.source.names.now (take l.pair-index l.pairs))
