use Rattle.std.proofs.Common.{◌≡◌, map, take}
use Rattle.pex_verify.specs.Signatures.{declared_of, declared_by}
use Rattle.pex_verify.proofs.scripts.signatures.Given as goal

abbrev pub invariant-loop-function : goal.invariant-loop-function
invariant-loop-function l =
    map declared_of l.found.items ≡ map (declared_by l.names) (take l.function-index l.functions)
