-- What V5 and V11 say of the members of a script.
use Rattle.std.specs.Prelude.{◌≡◌, ◌≢◌, ℕ, ◌<◌, ◌==◌, Bool, true, false, bit_and, List, length, map, slice_index, Option, Some, None, if◌then◌else◌, All}
use Rattle.pex_set.specs.Inherited.{found_in}
use Rattle.pex_set.specs.Names.{empty_name}
use Rattle.pex_set.specs.declared.inherited.MemberPlace.{MemberPlace}
use Rattle.pex_values.specs.declared.values.PexFunction.{PexFunction}
use Rattle.pex_values.specs.declared.values.PexState.{PexState}
use Rattle.pex_verify.specs.declared.scope.Home.{Home}
use Rattle.pex_verify.specs.declared.scripts.SetHeads.{SetHeads}
use Rattle.pex_verify.specs.declared.scripts.Signature.{Signature}
use Rattle.pex_verify.specs.Found.{function_found, parent_of, property_found, rank_of}
use Rattle.pex_verify.specs.Signatures.{AreAlike, declared_by, declared_of, number_at}

-- ---- names
-- no two of these numbers are the same
abbrev pub AreDistinct : List ℕ → Type 0
AreDistinct numbers = (a b : ℕ) → a < b → b < length numbers → slice_index numbers a ≢ slice_index numbers b

-- the numbers of the names of an object's states, and of a state's functions
abbrev pub state_numbers : Home → List ℕ
state_numbers home =
    map (λ (state : PexState). number_at home.source.now.names.now state.name) home.object.now.states.items

abbrev pub function_numbers : Home → PexState → List ℕ
function_numbers home state =
    map (λ (function : ℕ × PexFunction). number_at home.source.now.names.now function.0) state.functions.items

-- ---- properties
abbrev pub own_place : ℕ → Option MemberPlace → Option ℕ
own_place script None = None
own_place script (Some place) = if place.object == script then Some place.place else None

-- the place of a script's own first property of this name
abbrev pub first_property_of : SetHeads → ℕ → ℕ → Option ℕ
first_property_of set script name =
    own_place script (found_in set.table.properties (empty_name, name) (rank_of set script))

-- no earlier property of the script has the name of the one at this place, and none of a parent has it
pub record IsNewProperty (home : Home) (place name : ℕ) : Type 0 where
  pub first : first_property_of home.set.now home.here name ≡ Some place
  pub above : (parent : ℕ) → parent_of home.set.now home.here ≡ Some parent → property_found home.set.now parent name ≡ None

-- ---- functions
-- the function gives and takes what the other one does
abbrev pub IsAlike : Home → PexFunction → Signature → Type 0
IsAlike home function signature =
    AreAlike (declared_of signature) (declared_by home.source.now.names.now (0, function))

-- a function of a named state varies one of the empty states, which is neither global nor native
pub record Varies (home : Home) (name : ℕ) (function : PexFunction) : Type 0 where
  pub signature : Signature
  pub found : function_found home.set.now home.here name ≡ Some signature
  pub alike : IsAlike home function signature
  pub plain : bit_and function.bits 3 ≡ 0

-- a function of the empty state is alike the one that it replaces, if a parent has one
abbrev pub Overrides : Home → ℕ → PexFunction → Type 0
Overrides home name function =
    (parent : ℕ) (signature : Signature) → parent_of home.set.now home.here ≡ Some parent → function_found home.set.now parent name ≡ Some signature → IsAlike home function signature

abbrev pub ReplacesIn : Bool → Home → ℕ → PexFunction → Type 0
ReplacesIn true home name function = Overrides home name function
ReplacesIn false home name function = Varies home name function

-- a function of a state, beside its name
abbrev pub Replaces : Home → ℕ → ℕ × PexFunction → Type 0
Replaces home state function =
    ReplacesIn (number_at home.source.now.names.now state == 0) home (number_at home.source.now.names.now function.0) function.1

-- each function of a state, and no two have one name
pub record EachReplaces (home : Home) (state : PexState) : Type 0 where
  pub replaces : All (Replaces home state.name) state.functions.items
  pub distinct : AreDistinct (function_numbers home state)
