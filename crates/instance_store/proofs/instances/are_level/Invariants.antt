use Rattle.std.proofs.Common.{ℕ, ◌<◌}
use Rattle.instance_store.specs.Depths.{IsLevel}
use Rattle.instance_store.specs.Instances.{instance_at}
use Rattle.instance_store.proofs.instances.are_level.Given as goal

abbrev pub invariant-loop-instance : goal.invariant-loop-instance
invariant-loop-instance l =
    (k : ℕ) → k < l.instance-index → IsLevel l.depths (instance_at l.instances k).scripts
