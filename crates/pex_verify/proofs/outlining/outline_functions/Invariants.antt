use Rattle.std.proofs.Common.{◌≡◌, All, map, take, vec_len}
use Rattle.core_tree.specs.Outlines.{function_shape}
use Rattle.pex_verify.specs.Outlining.{loaded_shape}
use Rattle.pex_verify.specs.Soundness.{IsOutlineFunction}
use Rattle.pex_verify.proofs.outlining.outline_functions.Given as goal

abbrev pub invariant-loop-function : goal.invariant-loop-function
invariant-loop-function l =
    All (IsOutlineFunction (vec_len l.home.set.now.heads)) l.found.items × (map function_shape l.found.items ≡ map loaded_shape (take l.function-index l.functions))
