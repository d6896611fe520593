-- What waking is in the terms of the meaning of scripts.
use Rattle.std.specs.Prelude.{◌≡◌, ℕ, ◌<◌, ◌≤◌, List, IfSome}
use Rattle.code_meaning.specs.LookUp.{Body}
use Rattle.run_laws.specs.Exclusive.{first_is, how_many}
use Rattle.script_meaning.specs.Stacks.{Stack, inner_instance, stack_at}
use Rattle.script_meaning.specs.Turns.{all_wait}
use Rattle.script_meaning.specs.World.{World}
use Rattle.stack_places.specs.Places.{PlaceLists, due_in, placed, standings, without_due}

-- a stack that is due stands nowhere else
abbrev pub SleepAlone : ℕ → PlaceLists → Type 0
SleepAlone turn places =
    (k : ℕ) → 1 ≤ how_many (first_is k) (due_in turn places) → standings places k ≡ 1

-- the instances of the stacks that are due are there
abbrev pub AreThere : ℕ → ℕ → List (Stack Body) → PlaceLists → Type 0
AreThere turn instances stacks places =
    (k : ℕ) → 1 ≤ how_many (first_is k) (due_in turn places) → IfSome (inner_instance (stack_at stacks k)) (λ i. i < instances)

-- those that are due wait, in order, as `awoken` makes of a world
abbrev pub Wakes : ℕ → List (Stack Body) → PlaceLists → PlaceLists → Type 0
Wakes turn stacks old new =
    (world : World) → placed new world ≡ all_wait stacks (due_in turn old) (placed (without_due turn old) world)
