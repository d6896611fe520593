-- Who owns an instance, who waits, who runs free, sleeps or is done.
use Rattle.std.specs.Prelude.{ℕ, zero, suc, ◌+◌, ◌==◌, Bool, false, not, ◌&&◌, ◌||◌, if◌then◌else◌, nat_lt, List, [], ◌∷◌, ◌++◌, Option, Some, None}
use Rattle.std.specs.List.{filter, list_any}
use Rattle.script_meaning.specs.World.{World}

-- ---- lists by number
abbrev pub with_number : ℕ → List ℕ → List ℕ
with_number n [] = n ∷ []
with_number n (first ∷ rest) = if nat_lt n first then n ∷ first ∷ rest else first ∷ with_number n rest

-- pairs stand by their first numbers
abbrev pub with_pair : ℕ × ℕ → List (ℕ × ℕ) → List (ℕ × ℕ)
with_pair pair [] = pair ∷ []
with_pair pair (first ∷ rest) = if nat_lt pair.0 first.0 then pair ∷ first ∷ rest else first ∷ with_pair pair rest

abbrev pub is_other : ℕ → ℕ → Bool
is_other k stack = not (stack == k)

abbrev pub second_is : ℕ → ℕ × ℕ → Bool
second_is k pair = pair.1 == k

abbrev pub second_is_other : ℕ → ℕ × ℕ → Bool
second_is_other k pair = is_other k pair.1

-- ---- what a stack does
-- the instance that it owns is released, or it leaves `free`
abbrev pub let_go : ℕ → World → World
let_go k world =
    record world { owners = filter (second_is_other k) world.owners; free = filter (is_other k) world.free }

-- it joins the waiters of its instance, or it enters `free` where its frame has none
abbrev pub goes_to_wait : ℕ → Option ℕ → World → World
goes_to_wait k None world = record world { free = with_number k world.free }
goes_to_wait k (Some instance) world = record world { waiters = world.waiters ++ (instance, k) ∷ [] }

abbrev pub sleeps : ℕ → ℕ → World → World
sleeps k due world = record world { asleep = with_pair (k, due) world.asleep }

abbrev pub ends : ℕ → World → World
ends k world = record world { done = with_number k world.done }

-- after a native that isn't prompt: it lets go, and goes to wait or sleeps for so many turns after this one
abbrev pub rests : ℕ → ℕ → Option ℕ → World → World
rests k zero instance world = goes_to_wait k instance (let_go k world)
rests k (suc latency) instance world = sleeps k (world.turn + 1 + suc latency) (let_go k world)

abbrev pub same_instance : Option ℕ → Option ℕ → Bool
same_instance (Some a) (Some b) = a == b
same_instance _ _ = false

-- it goes from a frame on one instance to a frame on another: the lock is kept where they are the same
abbrev pub moves : ℕ → Option ℕ → Option ℕ → World → World
moves k from to world = if same_instance from to then world else goes_to_wait k to (let_go k world)

-- the instance that it waits for
abbrev pub waited_for : ℕ → List (ℕ × ℕ) → Option ℕ
waited_for k [] = None
waited_for k (first ∷ rest) = if first.1 == k then Some first.0 else waited_for k rest

-- where it waits for an instance, its pair leaves the waiters and it becomes the owner
abbrev pub becomes_owner : ℕ → Option ℕ → World → World
becomes_owner k None world = world
becomes_owner k (Some instance) world =
    record world { waiters = filter (second_is_other k) world.waiters; owners = with_pair (instance, k) world.owners }

abbrev pub takes : ℕ → World → World
takes k world = becomes_owner k (waited_for k world.waiters) world

-- ---- which stacks are ready
-- the stack of the first pair with this instance
abbrev pub stack_of : List (ℕ × ℕ) → ℕ → Option ℕ
stack_of [] instance = None
stack_of (first ∷ rest) instance = if first.0 == instance then Some first.1 else stack_of rest instance

abbrev pub is_owned : World → ℕ → Bool
is_owned world instance = list_any (λ pair. pair.0 == instance) world.owners

abbrev pub is_stack : ℕ → Option ℕ → Bool
is_stack k None = false
is_stack k (Some stack) = stack == k

-- the instance that a stack waits for has no owner, and the stack has its first pair
abbrev pub is_next : World → ℕ → Option ℕ → Bool
is_next world k None = false
is_next world k (Some instance) = not (is_owned world instance) && is_stack k (stack_of world.waiters instance)

abbrev pub is_ready : World → ℕ → Bool
is_ready world k =
    list_any (second_is k) world.owners || list_any (λ stack. stack == k) world.free || is_next world k (waited_for k world.waiters)
