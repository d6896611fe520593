-- The lists of a world by what is kept of each stack and instance.
use Rattle.std.specs.Prelude.{ℕ, zero, suc, Bool, true, false, List, [], ◌∷◌, ◌++◌, Option, Some, None, if◌then◌else◌, position}
use Rattle.lock_queue.specs.declared.seat.Seat.{Seat}
use Rattle.lock_queue.specs.declared.seat.Seat.TheVariants.{Resting, Free, Waits, Holds}
use Rattle.lock_queue.specs.LockTable.{holds}

-- the numbers of those that pass a test, of which the first has this number
abbrev pub numbers_of : {X : Type 0} → (X → Bool) → ℕ → List X → List ℕ
numbers_of test n [] = []
numbers_of test n (x ∷ xs) = if test x then n ∷ numbers_of test (suc n) xs else numbers_of test (suc n) xs

abbrev pub is_free : Seat → Bool
is_free Free = true
is_free Resting = false
is_free (Waits instance) = false
is_free (Holds instance) = false

abbrev pub is_true : Bool → Bool
is_true truth = truth

abbrev pub pair_of : ℕ → Option ℕ → List (ℕ × ℕ)
pair_of number None = []
pair_of number (Some other) = (number, other) ∷ []

-- the numbers of those that have something, each with what it has, where the first has this number
abbrev pub pairs_from : ℕ → List (Option ℕ) → List (ℕ × ℕ)
pairs_from n [] = []
pairs_from n (x ∷ xs) = pair_of n x ++ pairs_from (suc n) xs

-- the owners of so many instances, of which the first has this number
abbrev pub owners_from : ℕ → ℕ → List Seat → List (ℕ × ℕ)
owners_from instance zero seats = []
owners_from instance (suc left) seats =
    pair_of instance (position (holds instance) seats) ++ owners_from (suc instance) left seats
