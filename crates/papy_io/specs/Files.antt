-- What a desk tells that it holds: files by name, or nothing.
use Rattle.std.specs.Prelude.{◌≡◌, ◌≢◌, ℕ, List, Option, None, Some}
use Rattle.std.specs.Ordering.{nat_cmp}
use Rattle.std.specs.Cmp.Lexicographic.{slice_cmp}
use Rattle.std.specs.FinMap.{FinMap, get}

-- names with the bytes that they hold
abbrev pub Files : Type 0
Files = FinMap (slice_cmp nat_cmp) (List ℕ)

-- the bytes that a name holds, where they are told and the name is held
abbrev pub told_bytes : Option Files → List ℕ → Option (List ℕ)
told_bytes None name = None
told_bytes (Some files) name = get files name

-- only this name may change, from the bytes that it held, if any, to those that it holds now
pub record ChangesFile (name : List ℕ) (Change : Option (List ℕ) → Option (List ℕ) → Type 0) (old new : Files) : Type 0 where
  pub file : Change (get old name) (get new name)
  pub others : (other : List ℕ) → other ≢ name → get new other ≡ get old other

-- the same where the files are told, and a desk that tells them goes on to
abbrev pub ChangesTold : List ℕ → (Option (List ℕ) → Option (List ℕ) → Type 0) → Option Files → Option Files → Type 0
ChangesTold name Change None None = Unit {0}
ChangesTold name Change None (Some new) = ⊥
ChangesTold name Change (Some old) None = ⊥
ChangesTold name Change (Some old) (Some new) = ChangesFile name Change old new
