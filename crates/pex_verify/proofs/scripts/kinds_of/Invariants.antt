use Rattle.std.proofs.Common.{◌≡◌, map, take}
use Rattle.pex_verify.specs.Signatures.{kind_at}
use Rattle.pex_verify.proofs.scripts.kinds_of.Given as goal

abbrev pub invariant-loop-parameter : goal.invariant-loop-parameter
invariant-loop-parameter l = l.kinds.items ≡ map (kind_at l.names) (take l.parameter-index l.parameters)
