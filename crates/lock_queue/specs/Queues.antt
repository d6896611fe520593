-- For each instance a list of stacks, all kept as links to the next stack.
use Rattle.std.specs.Prelude.{◌≡◌, ℕ, List, [], Option, None, Some, length, map, slice_index_or}
use Rattle.std.specs.List.{last_or}
use Rattle.lock_queue.specs.Links.{link_at, Leads, Has, AllDiffer, AllBelow, walk}

-- the queue of each instance, of stacks below the room
pub record Lines : Type 0 where
  pub room : ℕ
  pub lists : List (List ℕ)

abbrev pub queue_at : List (List ℕ) → ℕ → List ℕ
queue_at lists instance = slice_index_or lists instance []

pub record IsQueue (next : List (Option ℕ)) (first last : Option ℕ) (room : ℕ) (queue : List ℕ) : Type 0 where
  pub leads : Leads next first queue
  pub last_is : last ≡ last_or None queue
  pub differ : AllDiffer queue
  pub below : AllBelow room queue

pub record AreQueues (next firsts lasts : List (Option ℕ)) (room : ℕ) (lists : List (List ℕ)) : Type 0 where
  pub next_room : length next ≡ room
  pub firsts_count : length firsts ≡ length lists
  pub lasts_count : length lasts ≡ length lists
  pub each : (instance : ℕ) → IsQueue next (link_at firsts instance) (link_at lasts instance) room (queue_at lists instance)
  -- a stack stands in one queue
  pub apart : (a b stack : ℕ) → Has (queue_at lists a) stack → Has (queue_at lists b) stack → a ≡ b

-- what a queue's last stack is once its first was taken out, with the link of that one
abbrev pub last_after : Option ℕ → Option ℕ → Option ℕ
last_after last None = None
last_after last (Some next) = last

abbrev pub lines_of : List (Option ℕ) → List (Option ℕ) → List (List ℕ)
lines_of next firsts = map (walk (length next) next) firsts
