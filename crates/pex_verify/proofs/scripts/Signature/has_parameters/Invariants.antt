use Rattle.std.proofs.Common.{◌≡◌, map, take}
use Rattle.pex_verify.specs.Signatures.{kind_at}
use Rattle.pex_verify.proofs.scripts.Signature.has_parameters.Given as goal

abbrev pub invariant-loop-place : goal.invariant-loop-place
invariant-loop-place l = take l.place l.self.parameters.items ≡ map (kind_at l.names) (take l.place l.parameters)
