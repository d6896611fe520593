use Rattle.std.proofs.Common.{ℕ, ◌<◌, ◌≢◌, All, IsSome, nat_eq, slice_index, get_or, map, take}
use Rattle.std.specs.HashMap.{get}
use Rattle.pex_values.specs.declared.values.PexState.{PexState}
use Rattle.pex_verify.specs.Rules.{EachReplaces, state_numbers}
use Rattle.pex_verify.specs.Sites.{site_of}
use Rattle.pex_verify.specs.Places.{bounds_of}
use Rattle.pex_verify.specs.Soundness.{IsSoundState}
use Rattle.pex_verify.specs.States.{AreStates, state_written}
use Rattle.pex_verify.proofs.object.load_states.Given as goal

abbrev pub invariant-loop-state : goal.invariant-loop-state
invariant-loop-state l =
    All (λ state. IsSoundState (bounds_of l.home) state.1.items) l.states.items × AreStates (site_of l.home) (map (state_written l.home) (take l.state-index l.home.object.now.states.items)) l.states.items
    × ((k : ℕ) (d : PexState) → k < l.state-index → EachReplaces l.home (get_or l.home.object.now.states.items k d))
    × ((k : ℕ) → k < l.state-index → IsSome (get nat_eq l.seen (slice_index (state_numbers l.home) k)))
    × ((a b : ℕ) → a < b → b < l.state-index → slice_index (state_numbers l.home) a ≢ slice_index (state_numbers l.home) b)
