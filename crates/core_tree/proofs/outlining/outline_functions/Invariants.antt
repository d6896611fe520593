use Rattle.std.proofs.Common.{◌≡◌, map, take}
use Rattle.core_tree.specs.Outlines.{function_shape, function_outline}
use Rattle.core_tree.proofs.outlining.outline_functions.Given as goal

abbrev pub invariant-loop-function : goal.invariant-loop-function
invariant-loop-function l = map function_shape l.found.items ≡ map function_outline (take l.function-index l.functions)
