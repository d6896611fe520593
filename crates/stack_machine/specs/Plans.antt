-- The order in which the stacks of a scene's calls start.
use Rattle.std.specs.Prelude.{ℕ, ◌≡◌, ◌<◌, List, length, vec_len, count_by, nat_lt}
use Rattle.std.specs.List.{All}
use Rattle.std.specs.List.Sorted.{IsNonDecreasingBy}
use Rattle.core_tree.specs.declared.scene.BoundCall.{BoundCall}
use Rattle.stack_machine.specs.declared.plan.PlannedCall.{PlannedCall}
use Rattle.stack_machine.specs.declared.world.World.{World}
use Rattle.stack_machine.specs.Standing.{Stands}

-- how many calls have a turn before this one
abbrev pub calls_before : ℕ → List BoundCall → ℕ
calls_before turn calls = count_by (λ call. nat_lt call.turn turn) calls

abbrev pub planned_before : ℕ → List PlannedCall → ℕ
planned_before turn planned = count_by (λ call. nat_lt call.turn turn) planned

-- all calls, in order of their turns
pub record ArePlanned (planned : List PlannedCall) (calls : List BoundCall) : Type 0 where
  pub in_order : IsNonDecreasingBy (λ call. call.turn) planned
  pub numbers : All (λ call. call.number < length calls) planned
  pub turns : (turn : ℕ) → planned_before turn planned ≡ calls_before turn calls
  pub many : length planned ≡ length calls

-- there is room for the stacks of all calls, and those have started whose turn is before this one
pub record HasBegun (planned : List PlannedCall) (calls : List BoundCall) (world : World) (turn : ℕ) : Type 0 where
  pub calls_planned : ArePlanned planned calls
  pub few : length calls < 65536
  pub room : world.places.room ≡ length calls
  pub started : vec_len world.stacks ≡ calls_before turn calls
  pub stands : Stands (vec_len world.stacks) world.last world.places
