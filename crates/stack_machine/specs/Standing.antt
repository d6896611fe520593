-- How often the stacks of a machine stand anywhere.
use Rattle.std.specs.Prelude.{◌≡◌, ℕ, ◌+◌, ◌<◌, ◌≤◌, ◌^◌, Option, None, [], vec_len}
use Rattle.body_runner.specs.declared.body.Turn.{Turn}
use Rattle.lock_queue.specs.LockTable.{start_after}
use Rattle.stack_machine.specs.declared.world.World.{World}
use Rattle.stack_places.specs.Places.{IsAway, IsReady, NobodyStands, PlaceTable, Runs, standings}

-- so many stacks have started and stand in one place each, and no other stands anywhere; the last one that ran has started
pub record Stands (started : ℕ) (last : Option ℕ) (places : PlaceTable) : Type 0 where
  pub once : (k : ℕ) → k < started → standings places.lists k ≡ 1
  pub none_else : (k : ℕ) → started ≤ k → IsAway places.lists k
  pub within : started ≤ places.room
  pub last_started : start_after last ≤ started

-- while they are placed: each in one place at most
pub record StandAtMost (started : ℕ) (places : PlaceTable) : Type 0 where
  pub most : (k : ℕ) → standings places.lists k ≤ 1
  pub none_else : (k : ℕ) → started ≤ k → IsAway places.lists k
  pub within : started ≤ places.room

-- room for as many stacks and instances as before
pub record IsSameSize (old new : PlaceTable) : Type 0 where
  pub instances : new.instances ≡ old.instances
  pub room : new.room ≡ old.room

-- afterwards: each of them in one place, where there is so much room
pub record ArePlaced (instances room started : ℕ) (places : PlaceTable) : Type 0 where
  pub instances_are : places.instances ≡ instances
  pub room_is : places.room ≡ room
  pub once : (k : ℕ) → k < started → standings places.lists k ≡ 1
  pub none_else : (k : ℕ) → started ≤ k → IsAway places.lists k

-- the stack of a turn owns an instance or runs free, and the turn has a number behind it
pub record IsInTurn (turn : Turn) (places : PlaceTable) : Type 0 where
  pub within : turn.stack < places.room
  pub runs : Runs places.lists turn.stack
  pub due : turn.number + 1 < 2 ^ 32

-- it has started and is ready
pub record MayTake (turn : Turn) (started : ℕ) (places : PlaceTable) : Type 0 where
  pub has_started : turn.stack < started
  pub within : turn.stack < places.room
  pub ready : IsReady places.lists turn.stack
  pub once : standings places.lists turn.stack ≡ 1
  pub due : turn.number + 1 < 2 ^ 32

-- before the first turn
pub record IsFresh (instances room : ℕ) (world : World) : Type 0 where
  pub stacks : vec_len world.stacks ≡ 0
  pub nobody : NobodyStands instances room world.places
  pub last : world.last ≡ None
