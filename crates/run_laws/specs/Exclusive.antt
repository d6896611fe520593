-- That each stack stands in one place, on the instance and with the reply that it needs there, and no two stacks
-- own one instance.
use Rattle.std.specs.Prelude.{◌≡◌, ℕ, ◌+◌, ◌==◌, ◌<◌, ◌≤◌, Bool, true, false, cond, List, [], ◌∷◌, length, Option, Some, None}
use Rattle.std.specs.List.{AllByRecursion}
use Rattle.script_meaning.specs.Locks.{second_is, is_ready}
use Rattle.script_meaning.specs.Stacks.{Stack, Done, ToEnter, Running, State, stack_at}
use Rattle.script_meaning.specs.World.{World}

abbrev pub is_number : ℕ → ℕ → Bool
is_number k stack = stack == k

abbrev pub first_is : ℕ → ℕ × ℕ → Bool
first_is n pair = pair.0 == n

-- how many elements pass the test
abbrev pub how_many : {X : Type 0} → (X → Bool) → List X → ℕ
how_many test [] = 0
how_many test (x ∷ xs) = cond (test x) 1 0 + how_many test xs

-- how often a stack stands among the owners, the waiters, the free ones, the sleepers and those that are
-- done
abbrev pub standings : World → ℕ → ℕ
standings world k =
    how_many (second_is k) world.owners + how_many (second_is k) world.waiters + how_many (is_number k) world.free + how_many (first_is k) world.asleep + how_many (is_number k) world.done

-- a stack isn't done, and its innermost frame has this instance, or none
abbrev pub IsOn : {Body : Type 0} → Option ℕ → Stack Body → Type 0
IsOn instance Done = ⊥
IsOn instance (ToEnter own way arguments below) = own ≡ instance
IsOn instance (Running innermost reply below) = innermost.instance ≡ instance

abbrev pub IsOnInstance : {Body : Type 0} → List (Stack Body) → ℕ × ℕ → Type 0
IsOnInstance stacks pair = IsOn (Some pair.0) (stack_at stacks pair.1)

abbrev pub IsOnNone : {Body : Type 0} → List (Stack Body) → ℕ → Type 0
IsOnNone stacks k = IsOn None (stack_at stacks k)

-- the innermost frame of a stack is a running one, to which a reply is to be given
abbrev pub HasReply : {Body : Type 0} → Stack Body → Type 0
HasReply Done = ⊥
HasReply (ToEnter instance way arguments below) = ⊥
HasReply (Running innermost None below) = ⊥
HasReply (Running innermost (Some reply) below) = Unit {0}

abbrev pub SleepsWithReply : {Body : Type 0} → List (Stack Body) → ℕ × ℕ → Type 0
SleepsWithReply stacks sleeper = HasReply (stack_at stacks sleeper.0)

-- a stack without a frame
abbrev pub is_done : {Body : Type 0} → Stack Body → Bool
is_done Done = true
is_done _ = false

abbrev pub IsDone : {Body : Type 0} → List (Stack Body) → ℕ → Type 0
IsDone stacks k = is_done (stack_at stacks k) ≡ true

pub record Exclusive {Body : Type 0} (state : State Body) : Type 0 where
  -- no two stacks own one instance
  pub one_owner : (instance : ℕ) → how_many (first_is instance) state.world.owners ≤ 1
  -- each stack that has started stands exactly once, and no other stands anywhere
  pub stacks : length state.stacks ≡ state.world.started
  pub once : (k : ℕ) → k < state.world.started → standings state.world k ≡ 1
  pub none_else : (k : ℕ) → state.world.started ≤ k → standings state.world k ≡ 0
  -- a stack owns, or waits for, the instance of its innermost frame, and is free where that has none
  pub owners : AllByRecursion (IsOnInstance state.stacks) state.world.owners
  pub waiters : AllByRecursion (IsOnInstance state.stacks) state.world.waiters
  pub free : AllByRecursion (IsOnNone state.stacks) state.world.free
  -- a stack that sleeps goes on with a reply
  pub asleep : AllByRecursion (SleepsWithReply state.stacks) state.world.asleep
  -- a stack has no frame exactly where it is done
  pub done : AllByRecursion (IsDone state.stacks) state.world.done
  pub ended : (k : ℕ) → k < state.world.started → IsDone state.stacks k → how_many (is_number k) state.world.done ≡ 1

-- where a stack that has started is neither done nor asleep, some stack is ready
abbrev pub GoesOn : {Body : Type 0} → State Body → Type 0
GoesOn state =
    (k : ℕ) → k < state.world.started → how_many (is_number k) state.world.done ≡ 0 → how_many (first_is k) state.world.asleep ≡ 0 → (j : ℕ) × (is_ready state.world j ≡ true)
