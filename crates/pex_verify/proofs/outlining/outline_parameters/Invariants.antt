use Rattle.std.proofs.Common.{◌≡◌, All, map, take, vec_len}
use Rattle.pex_verify.specs.Types.{IsTypeAmong}
use Rattle.pex_verify.proofs.outlining.outline_parameters.Given as goal

abbrev pub invariant-loop-parameter : goal.invariant-loop-parameter
invariant-loop-parameter l =
    All (IsTypeAmong (vec_len l.home.set.now.heads)) l.parameters.items × (l.parameters.items ≡ map (λ p. p.1) (take l.parameter-index l.function.parameters.items))
