-- Where stacks are, and what moves them, in the terms of the meaning of scripts.
use Rattle.std.specs.Prelude.{◌≡◌, ◌≢◌, ◌==◌, ℕ, ◌+◌, ◌<◌, ◌≤◌, true, Bool, List, [], ◌∷◌, length, Option, Some, None}
use Rattle.std.specs.List.{filter}
use Rattle.lock_queue.specs.LockTable.{LockTable}
use Rattle.stack_places.specs.Lists.{is_free, is_true, numbers_of, owners_from, pairs_from}
use Rattle.run_laws.specs.Exclusive.{how_many, is_number, first_is}
use Rattle.script_meaning.specs.Locks.{ends, is_ready, let_go, second_is}
use Rattle.script_meaning.specs.Turns.{is_due, not_due}
use Rattle.script_meaning.specs.World.{World}

-- the lists of a world that tell where its stacks are
pub record PlaceLists : Type 0 where
  pub owners : List (ℕ × ℕ)
  pub waiters : List (ℕ × ℕ)
  pub free : List ℕ
  pub done : List ℕ
  pub asleep : List (ℕ × ℕ)

-- the lists, how many instances there are, and for how many stacks there is room
pub record PlaceTable : Type 0 where
  pub lists : PlaceLists
  pub instances : ℕ
  pub room : ℕ

-- what is kept of locks, of sleepers and of stacks that are done, as lists
abbrev pub lists_of : LockTable → List (Option ℕ) → List Bool → PlaceLists
lists_of locks sleepers done = record {
  owners = owners_from 0 locks.instances locks.seats;
  waiters = locks.waiters;
  free = numbers_of is_free 0 locks.seats;
  done = numbers_of is_true 0 done;
  asleep = pairs_from 0 sleepers;
}

abbrev pub table_of : LockTable → List (Option ℕ) → List Bool → PlaceTable
table_of locks sleepers done =
    record { lists = lists_of locks sleepers done; instances = locks.instances; room = length locks.seats }

abbrev pub places_in : World → PlaceLists
places_in world =
    record { owners = world.owners; waiters = world.waiters; free = world.free; done = world.done; asleep = world.asleep }

-- the world whose stacks are at these places
abbrev pub placed : PlaceLists → World → World
placed places world =
    record world { owners = places.owners; waiters = places.waiters; free = places.free; done = places.done; asleep = places.asleep }

-- the places after what moves stacks in any world
abbrev pub Moved : (World → World) → PlaceLists → PlaceLists → Type 0
Moved move old new = (world : World) → placed new world ≡ move (placed old world)

-- the same of all that is kept
pub record Moves (move : World → World) (old new : PlaceTable) : Type 0 where
  pub moved : Moved move old.lists new.lists
  pub instances : new.instances ≡ old.instances
  pub room : new.room ≡ old.room

-- the same of a move that goes by the number of the turn
abbrev pub MovedIn : ℕ → (World → World) → PlaceLists → PlaceLists → Type 0
MovedIn turn move old new = (world : World) → world.turn ≡ turn → placed new world ≡ move (placed old world)

pub record MovesIn (turn : ℕ) (move : World → World) (old new : PlaceTable) : Type 0 where
  pub moved : MovedIn turn move old.lists new.lists
  pub instances : new.instances ≡ old.instances
  pub room : new.room ≡ old.room

-- a stack lets go and is done
abbrev pub finishes : ℕ → World → World
finishes k world = ends k (let_go k world)

-- how often a stack stands anywhere
abbrev pub standings : PlaceLists → ℕ → ℕ
standings places k =
    how_many (second_is k) places.owners + how_many (second_is k) places.waiters + how_many (is_number k) places.free + how_many (first_is k) places.asleep + how_many (is_number k) places.done

-- a stack owns an instance or runs free, and stands nowhere else
pub record Runs (places : PlaceLists) (k : ℕ) : Type 0 where
  pub once : standings places k ≡ 1
  pub now : 1 ≤ how_many (second_is k) places.owners + how_many (is_number k) places.free

abbrev pub is_zero : ℕ → Bool
is_zero n = n == 0

abbrev pub IsAway : PlaceLists → ℕ → Type 0
IsAway places k = standings places k ≡ 0

-- each stack stands as often as before, wherever that is
pub record SameStandings (old new : PlaceTable) : Type 0 where
  pub stands : (k : ℕ) → standings new.lists k ≡ standings old.lists k
  pub instances : new.instances ≡ old.instances
  pub room : new.room ≡ old.room

-- the same but for one that stood nowhere, and stands once
pub record StandsThen (stack : ℕ) (old new : PlaceTable) : Type 0 where
  pub here : standings new.lists stack ≡ 1
  pub others : (k : ℕ) → k ≢ stack → standings new.lists k ≡ standings old.lists k
  pub instances : new.instances ≡ old.instances
  pub room : new.room ≡ old.room

-- a stack is ready in each world whose stacks are at these places
abbrev pub IsReady : PlaceLists → ℕ → Type 0
IsReady places k = (world : World) → is_ready (placed places world) k ≡ true

-- no stack stands anywhere
pub record NobodyStands (instances room : ℕ) (table : PlaceTable) : Type 0 where
  pub lists : table.lists ≡ record { owners = []; waiters = []; free = []; done = []; asleep = [] }
  pub instances_are : table.instances ≡ instances
  pub room_is : table.room ≡ room

-- ---- sleepers
abbrev pub due_in : ℕ → PlaceLists → List (ℕ × ℕ)
due_in turn places = filter (is_due turn) places.asleep

-- without the sleepers that are due
abbrev pub without_due : ℕ → PlaceLists → PlaceLists
without_due turn places = record places { asleep = filter (not_due turn) places.asleep }

-- the first sleeper that is due was taken away
pub record TakesFirst (turn stack : ℕ) (old new : PlaceTable) : Type 0 where
  pub until : ℕ
  pub due : due_in turn old.lists ≡ (stack, until) ∷ due_in turn new.lists
  pub rest : without_due turn new.lists ≡ without_due turn old.lists
  pub instances : new.instances ≡ old.instances
  pub room : new.room ≡ old.room
  pub there : stack < old.room

pub record NoneIsDue (turn : ℕ) (old new : PlaceTable) : Type 0 where
  pub none : due_in turn old.lists ≡ []
  pub same : new ≡ old

abbrev pub TakesDue : ℕ → Option ℕ → PlaceTable → PlaceTable → Type 0
TakesDue turn None old new = NoneIsDue turn old new
TakesDue turn (Some stack) old new = TakesFirst turn stack old new
