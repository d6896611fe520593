-- Lists of stacks that are kept as links: at each stack's place stands the stack that its link leads
-- to, or none.
use Rattle.std.specs.Prelude.{◌≡◌, ◌≢◌, ◌<◌, ℕ, suc, zero, List, [], ◌∷◌, Option, Some, None, slice_index_or, slice_set, nat_eq, if◌then◌else◌, ◌⊎◌}

abbrev pub link_at : List (Option ℕ) → ℕ → Option ℕ
link_at links stack = slice_index_or links stack None

-- from this start the links lead along these stacks, and then to none
abbrev pub Leads : List (Option ℕ) → Option ℕ → List ℕ → Type 0
Leads links start [] = start ≡ None
Leads links start (stack ∷ stacks) = (start ≡ Some stack) × Leads links (link_at links stack) stacks

-- each of these stacks leads to the one before it, and the first to this one
abbrev pub LeadsBack : List (Option ℕ) → Option ℕ → List ℕ → Type 0
LeadsBack links before [] = Unit {0}
LeadsBack links before (stack ∷ stacks) = (link_at links stack ≡ before) × LeadsBack links (Some stack) stacks

abbrev pub Lacks : List ℕ → ℕ → Type 0
Lacks [] stack = Unit {0}
Lacks (other ∷ others) stack = (other ≢ stack) × Lacks others stack

abbrev pub Has : List ℕ → ℕ → Type 0
Has [] stack = ⊥
Has (other ∷ others) stack = (other ≡ stack) ⊎ Has others stack

abbrev pub AllDiffer : List ℕ → Type 0
AllDiffer [] = Unit {0}
AllDiffer (stack ∷ stacks) = Lacks stacks stack × AllDiffer stacks

abbrev pub AllBelow : ℕ → List ℕ → Type 0
AllBelow room [] = Unit {0}
AllBelow room (stack ∷ stacks) = (stack < room) × AllBelow room stacks

-- the stacks without this one
abbrev pub without : List ℕ → ℕ → List ℕ
without [] stack = []
without (other ∷ others) stack = if nat_eq other stack then others else other ∷ without others stack

abbrev pub first_of : List ℕ → Option ℕ
first_of [] = None
first_of (stack ∷ stacks) = Some stack

abbrev pub stack_after : List ℕ → ℕ → Option ℕ
stack_after [] stack = None
stack_after (other ∷ others) stack = if nat_eq other stack then first_of others else stack_after others stack

-- the stacks along the links from a start, at most this many
abbrev pub walk : ℕ → List (Option ℕ) → Option ℕ → List ℕ
walk zero links start = []
walk (suc n) links None = []
walk (suc n) links (Some stack) = stack ∷ walk n links (link_at links stack)

-- the links after the link of a stack was written; with no stack it is the end that is written
abbrev pub relinked : List (Option ℕ) → Option ℕ → Option ℕ → List (Option ℕ)
relinked links None to = links
relinked links (Some stack) to = slice_set links stack to

abbrev pub end_after : Option ℕ → Option ℕ → Option ℕ → Option ℕ
end_after end None to = to
end_after end (Some stack) to = end
