use Rattle.std.proofs.Common.{◌≡◌, map, take}
use Rattle.pex_verify.specs.Heads.{property_by}
use Rattle.pex_verify.proofs.scripts.property_heads.Given as goal

abbrev pub invariant-loop-property : goal.invariant-loop-property
invariant-loop-property l = l.heads.items ≡ map (property_by l.names) (take l.property-index l.properties)
