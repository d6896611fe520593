use Rattle.std.proofs.Common.{ℕ, ◌<◌, ◌≢◌, IsSome, nat_eq, slice_index, get_or, map, take}
use Rattle.std.specs.HashMap.{get}
use Rattle.pex_values.specs.declared.values.PexFunction.{PexFunction}
use Rattle.pex_verify.specs.Rules.{Replaces, function_numbers}
use Rattle.pex_verify.specs.Sites.{site_of}
use Rattle.pex_verify.specs.Matching.{AreWritten}
use Rattle.pex_verify.specs.Places.{bounds_of}
use Rattle.pex_verify.specs.Soundness.{AreSoundFunctions}
use Rattle.pex_verify.specs.States.{own_written}
use Rattle.pex_verify.proofs.object.load_functions.Given as goal

abbrev pub invariant-loop-name : goal.invariant-loop-name
invariant-loop-name l =
    AreSoundFunctions (bounds_of l.home) l.functions.items × AreWritten (site_of l.home) (map (own_written l.home) (take l.name-index l.state.functions.items)) l.functions.items
    × ((k : ℕ) (d : ℕ × PexFunction) → k < l.name-index → Replaces l.home l.state.name (get_or l.state.functions.items k d))
    × ((k : ℕ) → k < l.name-index → IsSome (get nat_eq l.seen (slice_index (function_numbers l.home l.state) k)))
    × ((a b : ℕ) → a < b → b < l.name-index → slice_index (function_numbers l.home l.state) a ≢ slice_index (function_numbers l.home l.state) b)
