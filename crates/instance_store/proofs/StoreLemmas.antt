-- What one step of a loop over a list does to the definitions of stores.
use Rattle.std.proofs.Common.{◌≡◌, ℕ, ◌+◌, ◌<◌, List, length, drop, get_or, arith}
use Rattle.std.proofs.Math.Seq.{drop-cons}
use Rattle.std.specs.Prelude.{slice_get}
use Rattle.core_tree.specs.declared.outline.OutlineScript.{OutlineScript}
use Rattle.instance_store.specs.Instances.{start_state, auto_state_of}
use Rattle.core_tree.specs.Outlines.{name_or}

pub start_state-step : (scripts : List OutlineScript) (above : List ℕ) (at : ℕ) → at < length above → start_state scripts (drop at above) ≡ name_or (auto_state_of (slice_get scripts (get_or above at 0))) (start_state scripts (drop (at + 1) above))
start_state-step scripts above at within = grind (arith, drop-cons above at 0)
