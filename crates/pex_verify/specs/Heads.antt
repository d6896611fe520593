-- What scripts offer to others, as their objects say.
use Rattle.std.specs.Prelude.{◌≡◌, ◌⊎◌, ℕ, ◌==◌, List, [], ◌++◌, map, Option, Some, None, slice_get}
use Rattle.std.specs.List.{flat_map, position_or_len}
use Rattle.std.specs.Option.{option_and_then, option_map}
use Rattle.pex_set.specs.Names.{empty_name}
use Rattle.pex_set.specs.declared.objects.Head.{Head}
use Rattle.pex_values.specs.declared.values.PexFunction.{PexFunction}
use Rattle.pex_values.specs.declared.values.PexObject.{PexObject}
use Rattle.pex_values.specs.declared.values.PexProperty.{PexProperty}
use Rattle.pex_values.specs.declared.values.PexState.{PexState}
use Rattle.pex_verify.specs.declared.scripts.PropertySignature.{PropertySignature}
use Rattle.pex_verify.specs.declared.scripts.ScriptHead.{ScriptHead}
use Rattle.pex_verify.specs.declared.sources.DefaultMembers.{DefaultMembers}
use Rattle.pex_verify.specs.declared.sources.SetFile.{SetFile}
use Rattle.pex_verify.specs.Pairs.{Paired}
use Rattle.pex_verify.specs.Signatures.{number_at, Declared, declared_of, declared_by}

-- ---- objects
-- an object, with its file
pub record Placed : Type 0 where
  pub source : SetFile
  pub object : PexObject

abbrev pub placed : SetFile → PexObject → Placed
placed source object = record { source = source; object = object }

abbrev pub placed_in : SetFile → List Placed
placed_in source = map (placed source) source.pex.now.objects.items

-- the objects of files, in order
abbrev pub placed_objects : List SetFile → List Placed
placed_objects sources = flat_map placed_in sources

-- ---- the members of every script without parent
pub record Members : Type 0 where
  pub numbers : List ℕ
  pub list : List (ℕ × PexFunction)

abbrev pub members_of : DefaultMembers → Members
members_of members = record { numbers = members.source.now.names.now; list = members.list.now }

-- what the member at a place declares
abbrev pub member_at : Members → ℕ → Option Declared
member_at members place = option_map (declared_by members.numbers) (slice_get members.list place)

-- ---- heads
abbrev pub property_by : List ℕ → PexProperty → PropertySignature
property_by numbers property =
    record { name = number_at numbers property.name; kind = number_at numbers property.kind; bits = property.bits }

-- the place of the first state without name, and how many states there are where there is none
abbrev pub empty_state_of : List ℕ → List PexState → ℕ
empty_state_of numbers states = position_or_len (λ (state : PexState). number_at numbers state.name == 0) states

abbrev pub functions_of_state : Option PexState → List (ℕ × PexFunction)
functions_of_state None = []
functions_of_state (Some state) = state.functions.items

-- the functions of the first state without name
abbrev pub empty_functions : List ℕ → PexObject → List (ℕ × PexFunction)
empty_functions numbers object =
    functions_of_state (slice_get object.states.items (empty_state_of numbers object.states.items))

-- these functions, and behind them the members that the script lacks
abbrev pub Offers : Members → List Declared → ScriptHead → Type 0
Offers members own head =
    map Some (map declared_of head.functions.items) ≡ map Some own ++ map (member_at members) head.lacking.items

-- the head of an object's script
pub record IsHeadOf (members : Members) (above : Option ℕ) (numbers : List ℕ) (object : PexObject) (head : ScriptHead) : Type 0 where
  pub parent : head.parent ≡ above
  pub properties : head.properties.items ≡ map (property_by numbers) object.properties.items
  pub empty_state : head.empty_state ≡ empty_state_of numbers object.states.items
  pub functions : Offers members (map (declared_by numbers) (empty_functions numbers object)) head
  -- a script that lacks members has no parent
  pub lacks : (head.lacking.items ≡ []) ⊎ (number_at numbers object.parent ≡ empty_name)

-- the places of the members that a script lacks
abbrev pub lacking_in : Option ScriptHead → List ℕ
lacking_in None = []
lacking_in (Some head) = head.lacking.items

-- the parent of a script, by its number
abbrev pub parent_at : List (Option ℕ) → ℕ → Option ℕ
parent_at parents number = option_and_then (λ parent. parent) (slice_get parents number)

-- the heads of the scripts of these objects, in order
abbrev pub AreHeads : Members → List (Option ℕ) → List Placed → List ScriptHead → Type 0
AreHeads members parents objects heads =
    Paired Placed ScriptHead (λ n o h. IsHeadOf members (parent_at parents n) o.source.names.now o.object h) objects heads

-- what the list of a set's objects says of an object
pub record IsNumbered (o : Placed) (head : Head) : Type 0 where
  pub name : head.name ≡ number_at o.source.names.now o.object.name
  pub parent : head.parent ≡ number_at o.source.names.now o.object.parent

abbrev pub AreNumbered : List Placed → List Head → Type 0
AreNumbered objects heads = Paired Placed Head (λ n o h. IsNumbered o h) objects heads
