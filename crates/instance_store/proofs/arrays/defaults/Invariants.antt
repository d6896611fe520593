use Rattle.std.proofs.Common.{◌≡◌}
use Rattle.std.specs.Prelude.{replicate}
use Rattle.core_tree.specs.Values.{default_of}
use Rattle.instance_store.proofs.arrays.defaults.Given as goal

abbrev pub invariant-loop-made : goal.invariant-loop-made
invariant-loop-made l = l.items.items ≡ replicate l._made (default_of l.kind)
