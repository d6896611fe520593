-- What the parts of the locks say of one another.
use Rattle.std.specs.Prelude.{◌≡◌, ℕ, ◌*◌, ◌<◌, ◌≤◌, ◌==◌, ◌&&◌, Bool, true, false, List, Option, Some, is_none, length, map, filter}
use Rattle.lock_queue.specs.declared.seat.Seat.{Seat}
use Rattle.lock_queue.specs.declared.seat.Seat.TheVariants.{Resting, Free, Waits, Holds}
use Rattle.lock_queue.specs.Links.{link_at, Has, AllDiffer}
use Rattle.lock_queue.specs.Order.{Sequence}
use Rattle.lock_queue.specs.Queues.{Lines, queue_at}
use Rattle.lock_queue.specs.Ready.{is_member}
use Rattle.lock_queue.specs.LockTable.{seat_at, is_first}

abbrev pub waits : ℕ → Seat → Bool
waits instance (Waits awaited) = awaited == instance
waits instance Resting = false
waits instance Free = false
waits instance (Holds held) = false

-- the instance of a seat, or 0
abbrev pub awaited_in : Seat → ℕ
awaited_in (Waits instance) = instance
awaited_in Resting = 0
awaited_in Free = 0
awaited_in (Holds instance) = 0

abbrev pub waiters_of : List Seat → List ℕ → List (ℕ × ℕ)
waiters_of seats stacks = map (λ stack. (awaited_in (seat_at seats stack), stack)) stacks

abbrev pub ready_in : List (Option ℕ) → List (List ℕ) → ℕ → Seat → Bool
ready_in owners lists stack Resting = false
ready_in owners lists stack Free = true
ready_in owners lists stack (Holds instance) = true
ready_in owners lists stack (Waits instance) =
    is_none (link_at owners instance) && is_first stack (queue_at lists instance)

pub record Agree (seats : List Seat) (owners : List (Option ℕ)) (order : Sequence) (queues : Lines) (words : List ℕ) : Type 0 where
  pub bounded : length seats < 65536
  pub order_room : order.room ≡ length seats
  pub queue_room : queues.room ≡ length seats
  pub queue_count : length queues.lists ≡ length owners
  pub words_room : length seats ≤ 64 * length words
  pub differ : AllDiffer order.stacks
  pub waits_within : (stack instance : ℕ) → seat_at seats stack ≡ Waits instance → instance < length owners
  pub holds_within : (stack instance : ℕ) → seat_at seats stack ≡ Holds instance → instance < length owners
  pub listed : (stack instance : ℕ) → seat_at seats stack ≡ Waits instance → Has order.stacks stack
  pub waiting : (stack : ℕ) → Has order.stacks stack → (instance : ℕ) × (seat_at seats stack ≡ Waits instance)
  pub owned : (stack instance : ℕ) → seat_at seats stack ≡ Holds instance → link_at owners instance ≡ Some stack
  pub owner : (stack instance : ℕ) → link_at owners instance ≡ Some stack → seat_at seats stack ≡ Holds instance
  pub lines : (instance : ℕ) → queue_at queues.lists instance ≡ filter (λ stack. waits instance (seat_at seats stack)) order.stacks
  pub ready : (stack : ℕ) → is_member words stack ≡ ready_in owners queues.lists stack (seat_at seats stack)
