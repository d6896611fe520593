-- How far below their roots scripts stand.
use Rattle.std.specs.Prelude.{ℕ, suc, ◌≡◌, ◌<◌, ◌-◌, List, Some, length, slice_get, slice_index_or}
use Rattle.instance_store.specs.Instances.{ScriptValues, InstanceState, no_script, instance_at}

-- each script of an instance has as many behind it as its depth says
abbrev pub IsLevel : List ℕ → List ScriptValues → Type 0
IsLevel depths scripts =
    (k : ℕ) → k < length scripts → slice_get depths (slice_index_or scripts k no_script).script ≡ Some (length scripts - suc k)

-- so has each script of all instances, where depths are known
abbrev pub AreLevel : List ℕ → List InstanceState → Type 0
AreLevel depths instances =
    0 < length depths → (k : ℕ) → k < length instances → IsLevel depths (instance_at instances k).scripts
