-- What a set of borrowed byte lists holds.
use Rattle.std.specs.Prelude.{ℕ, List, map}
use Rattle.std.specs.Borrow.{Bor}
use Rattle.indexmap.specs.IndexSet.{IndexSet}

abbrev pub held : {S : Type 0} → IndexSet (Bor (List ℕ)) S → List (List ℕ)
held set = map (λ k. k.now) set.keys
