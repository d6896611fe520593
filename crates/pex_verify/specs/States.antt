-- The states of a loaded script, as its object says.
use Rattle.std.specs.Prelude.{◌≡◌, ℕ, ◌==◌, Bool, List, [], ◌∷◌, ◌++◌, if◌then◌else◌, map, Option, Some, None, slice_get}
use Rattle.std.specs.List.{flat_map, list_any}
use Rattle.std.specs.declared.alloc.Global.{Global}
use Rattle.std.specs.declared.vec.Vec.{Vec}
use Rattle.papy_base.specs.declared.name.Name.{Name}
use Rattle.pex_values.specs.declared.values.PexFunction.{PexFunction}
use Rattle.pex_values.specs.declared.values.PexState.{PexState}
use Rattle.pex_verify.specs.declared.judged.JudgedFunction.{JudgedFunction}
use Rattle.pex_verify.specs.declared.scope.Home.{Home}
use Rattle.pex_verify.specs.Heads.{lacking_in}
use Rattle.pex_verify.specs.Matching.{Written, AreWritten}
use Rattle.pex_verify.specs.Pairs.{Paired}
use Rattle.pex_verify.specs.Signatures.{number_at, title_at}
use Rattle.pex_verify.specs.Sites.{Site}

-- a function of the object, beside its name
abbrev pub own_written : Home → ℕ × PexFunction → Written
own_written home function =
    record { numbers = home.source.now.names.now; titles = home.source.now.titles.now; name = function.0; function = function.1 }

-- a member of every script without parent
abbrev pub written_member : Home → ℕ × PexFunction → Written
written_member home member =
    record { numbers = home.members.now.source.now.names.now; titles = home.members.now.source.now.titles.now; name = member.0; function = member.1 }

abbrev pub member_written : Home → Option (ℕ × PexFunction) → List Written
member_written home None = []
member_written home (Some member) = written_member home member ∷ []

-- the places of the members that the script lacks
abbrev pub lacking_places : Home → List ℕ
lacking_places home = lacking_in (slice_get home.set.now.heads.items home.here)

-- the member at a place
abbrev pub member_in : Home → ℕ → List Written
member_in home place = member_written home (slice_get home.members.now.list.now place)

abbrev pub lacking_written : Home → List Written
lacking_written home = flat_map (member_in home) (lacking_places home)

-- ---- states
pub record WrittenState : Type 0 where
  pub name : List ℕ
  pub functions : List Written

abbrev pub is_empty_state : Home → PexState → Bool
is_empty_state home state = number_at home.source.now.names.now state.name == 0

-- the functions of a state of the object. The members that the script lacks stand last in its empty state
abbrev pub state_functions : Home → PexState → List Written
state_functions home state =
    map (own_written home) state.functions.items ++ (if is_empty_state home state then lacking_written home else [])

abbrev pub state_written : Home → PexState → WrittenState
state_written home state =
    record { name = title_at home.source.now.titles.now state.name; functions = state_functions home state }

-- the state that is added for these members where there is no empty one
abbrev pub added_state : List Written → List WrittenState
added_state [] = []
added_state (member ∷ members) = record { name = []; functions = member ∷ members } ∷ []

abbrev pub states_written : Home → List PexState → List WrittenState
states_written home states =
    map (state_written home) states ++ (if list_any (is_empty_state home) states then [] else added_state (lacking_written home))

-- what is loaded for a state
pub record IsState (site : Site) (written : WrittenState) (loaded : Name × Vec JudgedFunction Global) : Type 0 where
  pub name : loaded.0 ≡ written.name
  pub functions : AreWritten site written.functions loaded.1.items

abbrev pub AreStates : Site → List WrittenState → List (Name × Vec JudgedFunction Global) → Type 0
AreStates site written loaded =
    Paired WrittenState (Name × Vec JudgedFunction Global) (λ n w s. IsState site w s) written loaded
