-- One list of stacks that is kept as links in both directions.
use Rattle.std.specs.Prelude.{◌≡◌, ℕ, List, Option, None, length}
use Rattle.std.specs.List.{last_or}
use Rattle.lock_queue.specs.Links.{Leads, LeadsBack, AllDiffer, AllBelow}

-- the stacks in order, all below the room
pub record Sequence : Type 0 where
  pub room : ℕ
  pub stacks : List ℕ

pub record IsLinked (after before : List (Option ℕ)) (first last : Option ℕ) (room : ℕ) (stacks : List ℕ) : Type 0 where
  pub after_room : length after ≡ room
  pub before_room : length before ≡ room
  pub leads : Leads after first stacks
  pub leads_back : LeadsBack before None stacks
  pub last_is : last ≡ last_or None stacks
  pub differ : AllDiffer stacks
  pub below : AllBelow room stacks
