-- How far a read of a whole file has come.
use Rattle.std.proofs.Common.{◌≡◌, ℕ, List, ◌++◌, Option, None, Some}
use Rattle.papy_io.specs.Activity.{Activity, Reading}

-- the bytes that were left are these items, and then the rest
abbrev pub Behind : Option (List ℕ) → List ℕ → Option (List ℕ) → Type 0
Behind None items rest = rest ≡ None
Behind (Some all) items rest = (xs : List ℕ) × (rest ≡ Some xs) × (all ≡ items ++ xs)

pub record ReadsSoFar (start : Activity) (items : List ℕ) (now : Activity) : Type 0 where
  pub name : List ℕ
  pub left : Option (List ℕ)
  pub rest : Option (List ℕ)
  pub started : start ≡ Reading name left
  pub goes_on : now ≡ Reading name rest
  pub behind : Behind left items rest
