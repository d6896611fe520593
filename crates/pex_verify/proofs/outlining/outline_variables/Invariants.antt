use Rattle.std.proofs.Common.{◌≡◌, take, vec_len}
use Rattle.pex_verify.specs.Soundness.{AreTyped}
use Rattle.pex_verify.proofs.outlining.outline_variables.Given as goal

abbrev pub invariant-loop-variable : goal.invariant-loop-variable
invariant-loop-variable l =
    (vec_len l.found ≡ l.variable-index) × AreTyped (vec_len l.home.set.now.heads) l.found.items × (l.found.items ≡ take l.variable-index l.home.variables.now.list.items)
