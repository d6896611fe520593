-- The sleeps of stacks, as a tree has them.
use Rattle.std.specs.Prelude.{ℕ, ◌≤◌, List, [], ◌∷◌, ◌++◌, length, Option, Some, None}
use Rattle.latent_natives.specs.declared.sleepers.Node.{Node}
use Rattle.latent_natives.specs.declared.sleepers.Node.TheVariants.{Empty, One, Two}

-- the sleeps of a node in order of stack number
abbrev pub sleeps : Node → List (Option ℕ)
sleeps Empty = []
sleeps (One until) = until ∷ []
sleeps (Two left right) = left.value ++ right.value

-- no sleep ends before this turn
abbrev pub NotBefore : ℕ → List (Option ℕ) → Type 0
NotBefore turn [] = Unit {0}
NotBefore turn (None ∷ rest) = NotBefore turn rest
NotBefore turn (Some until ∷ rest) = (turn ≤ until) × NotBefore turn rest

-- both sides of a node have stacks
abbrev pub HasFullSides : Node → Type 0
HasFullSides Empty = Unit {0}
HasFullSides (One until) = Unit {0}
HasFullSides (Two left right) = (1 ≤ length left.value) × (1 ≤ length right.value)
