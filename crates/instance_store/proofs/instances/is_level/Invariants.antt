use Rattle.std.proofs.Common.{ℕ, suc, ◌≡◌, ◌<◌, ◌-◌, length}
use Rattle.std.specs.Prelude.{Some, slice_get, slice_index_or}
use Rattle.instance_store.specs.Instances.{no_script}
use Rattle.instance_store.proofs.instances.is_level.Given as goal

abbrev pub invariant-loop-place : goal.invariant-loop-place
invariant-loop-place l =
    (k : ℕ) → k < l.place → slice_get l.depths (slice_index_or l.scripts k no_script).script ≡ Some (length l.scripts - suc k)
