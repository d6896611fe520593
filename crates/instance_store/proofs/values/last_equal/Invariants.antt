use Rattle.std.proofs.Common.{◌≡◌, ◌≤◌, length}
use Rattle.instance_store.specs.Arrays.{last_equal}
use Rattle.instance_store.proofs.values.last_equal.Given as goal

abbrev pub invariant-loop-end : goal.invariant-loop-end
invariant-loop-end l = record {
  within : l.end ≤ length l.items;
  same : last_equal l.items l.value l.end ≡ last_equal l.items l.value l.initial.end;
}

abbrev pub decreases-loop-end : goal.decreases-loop-end
decreases-loop-end l = l.end
