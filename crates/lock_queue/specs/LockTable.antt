-- The seats of stacks, and the one list of those that wait.
use Rattle.std.specs.Prelude.{◌≡◌, ℕ, ◌+◌, ◌-◌, ◌==◌, ◌&&◌, ◌++◌, Bool, true, false, List, [], ◌∷◌, Option, Some, None, is_none, length, map, filter, find, position, slice_index_or, if◌then◌else◌}
use Rattle.std.specs.List.{range_with_len}
use Rattle.lock_queue.specs.declared.seat.Seat.{Seat}
use Rattle.lock_queue.specs.declared.seat.Seat.TheVariants.{Resting, Free, Waits, Holds}

pub record LockTable : Type 0 where
  pub seats : List Seat
  -- each stack that waits, after its instance, in order of joining
  pub waiters : List (ℕ × ℕ)
  pub instances : ℕ

abbrev pub seat_at : List Seat → ℕ → Seat
seat_at seats stack = slice_index_or seats stack Resting

abbrev pub seat_of : LockTable → ℕ → Seat
seat_of table stack = seat_at table.seats stack

abbrev pub held_by : Seat → Option ℕ
held_by (Holds instance) = Some instance
held_by Resting = None
held_by Free = None
held_by (Waits instance) = None

abbrev pub waits_for : Seat → Option ℕ
waits_for (Waits instance) = Some instance
waits_for Resting = None
waits_for Free = None
waits_for (Holds instance) = None

abbrev pub rests : Seat → Bool
rests Resting = true
rests Free = false
rests (Waits instance) = false
rests (Holds instance) = false

-- it holds nothing and waits for nothing
abbrev pub IsIdle : Seat → Type 0
IsIdle seat = (held_by seat ≡ None) × (waits_for seat ≡ None)

abbrev pub holds : ℕ → Seat → Bool
holds instance (Holds held) = held == instance
holds instance Resting = false
holds instance Free = false
holds instance (Waits other) = false

-- the stack that holds the instance
abbrev pub owner_of : LockTable → ℕ → Option ℕ
owner_of table instance = position (holds instance) table.seats

-- the stacks that wait for an instance, in order of joining
abbrev pub queue_of : LockTable → ℕ → List ℕ
queue_of table instance = map (λ waiter. waiter.1) (filter (λ waiter. waiter.0 == instance) table.waiters)

-- the pairs of one stack among those that wait
abbrev pub pairs_of : LockTable → ℕ → List (ℕ × ℕ)
pairs_of table stack = filter (λ waiter. waiter.1 == stack) table.waiters

-- a stack that waits for an instance has one pair, and another has none
abbrev pub pairs_if : ℕ → Option ℕ → List (ℕ × ℕ)
pairs_if stack None = []
pairs_if stack (Some instance) = (instance, stack) ∷ []

abbrev pub is_first : ℕ → List ℕ → Bool
is_first stack [] = false
is_first stack (first ∷ rest) = first == stack

abbrev pub is_some_of : ℕ → Option ℕ → Bool
is_some_of number None = false
is_some_of number (Some other) = other == number

-- nobody holds the instance, and no earlier stack waits for it
abbrev pub may_take : LockTable → ℕ → ℕ → Bool
may_take table stack instance = is_none (owner_of table instance) && is_first stack (queue_of table instance)

-- whether a stack with this seat may be chosen to run
abbrev pub is_ready_in : LockTable → ℕ → Seat → Bool
is_ready_in table stack Resting = false
is_ready_in table stack Free = true
is_ready_in table stack (Holds instance) = true
is_ready_in table stack (Waits instance) = may_take table stack instance

abbrev pub is_ready : LockTable → ℕ → Bool
is_ready table stack = is_ready_in table stack (seat_of table stack)

-- the waiters without this stack
abbrev pub without_stack : List (ℕ × ℕ) → ℕ → List (ℕ × ℕ)
without_stack [] stack = []
without_stack (waiter ∷ waiters) stack =
    if waiter.1 == stack then waiters else waiter ∷ without_stack waiters stack

abbrev pub first_waiter : List (ℕ × ℕ) → Option ℕ
first_waiter [] = None
first_waiter (waiter ∷ waiters) = Some waiter.1

abbrev pub waiter_after : List (ℕ × ℕ) → Option ℕ → Option ℕ
waiter_after waiters None = first_waiter waiters
waiter_after [] (Some stack) = None
waiter_after (waiter ∷ waiters) (Some stack) =
    if waiter.1 == stack then first_waiter waiters else waiter_after waiters (Some stack)

-- all numbers below a bound, from a start on and then from 0
abbrev pub numbers_from : ℕ → ℕ → List ℕ
numbers_from start bound = range_with_len start (bound - start) ++ range_with_len 0 start

abbrev pub start_after : Option ℕ → ℕ
start_after None = 0
start_after (Some last) = last + 1

-- the first ready stack after the last one, cyclically, or from 0
abbrev pub ready_after : LockTable → Option ℕ → Option ℕ
ready_after table last = find (is_ready table) (numbers_from (start_after last) (length table.seats))
