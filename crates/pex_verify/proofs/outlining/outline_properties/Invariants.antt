use Rattle.std.proofs.Common.{◌≡◌, take}
use Rattle.std.specs.List.{filter_map}
use Rattle.pex_verify.specs.Outlining.{auto_property}
use Rattle.pex_verify.proofs.outlining.outline_properties.Given as goal

abbrev pub invariant-loop-property : goal.invariant-loop-property
invariant-loop-property l = l.found.items ≡ filter_map auto_property (take l.property-index l.properties)
