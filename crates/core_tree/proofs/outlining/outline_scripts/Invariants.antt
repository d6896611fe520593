use Rattle.std.proofs.Common.{◌≡◌, map, take}
use Rattle.core_tree.specs.Outlines.{script_shape, script_outline}
use Rattle.core_tree.proofs.outlining.outline_scripts.Given as goal

abbrev pub invariant-loop-script : goal.invariant-loop-script
invariant-loop-script l = map script_shape l.found.items ≡ map script_outline (take l.script-index l.scripts)
