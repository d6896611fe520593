use Rattle.std.proofs.Common.{◌≡◌, take}
use Rattle.std.specs.Prelude.{flat_map}
use Rattle.core_tree.specs.Outlines.{auto_property}
use Rattle.core_tree.proofs.outlining.outline_properties.Given as goal

abbrev pub invariant-loop-property : goal.invariant-loop-property
invariant-loop-property l = l.found.items ≡ flat_map auto_property (take l.property-index l.properties)
