-- What a set that was verified was judged by.
use Rattle.std.specs.Prelude.{ℕ, ◌==◌, List, [], ◌∷◌, ◌++◌, if◌then◌else◌, map, Option, option_to_list}
use Rattle.std.specs.List.{flat_map, list_any}
use Rattle.pex_set.specs.Names.{empty_name}
use Rattle.pex_set.specs.Objects.{parents_in}
use Rattle.pex_values.specs.declared.values.PexState.{PexState}
use Rattle.pex_verify.specs.declared.members.MemberLists.{MemberLists}
use Rattle.pex_verify.specs.declared.scripts.PropertySignature.{PropertySignature}
use Rattle.pex_verify.specs.declared.scripts.ScriptHead.{ScriptHead}
use Rattle.pex_verify.specs.declared.scripts.SetHeads.{SetHeads}
use Rattle.pex_verify.specs.Heads.{Placed, placed_objects, Members, members_of, member_at}
use Rattle.pex_verify.specs.Sets.{JudgedSet}
use Rattle.pex_verify.specs.Signatures.{Declared, declared_by, number_at}
use Rattle.pex_verify.specs.Tables.{all_members}
use Rattle.pex_verify.specs.Whole.{IsJudgedSet}
use Rattle.pex_verify.proofs.Views.{StateView}

-- ---- the states of an object by numbers
-- the members that a script lacks
abbrev pub lacking_declared : Members → List ℕ → List Declared
lacking_declared members places = flat_map (λ place. option_to_list (member_at members place)) places

-- they stand last in its empty state
abbrev pub state_view : Members → List ℕ → List ℕ → PexState → StateView
state_view members numbers lacking state = record {
  name = number_at numbers state.name;
  functions = map (declared_by numbers) state.functions.items ++ (if number_at numbers state.name == empty_name then lacking_declared members lacking else []);
}

abbrev pub added_view : List Declared → List StateView
added_view [] = []
added_view (first ∷ rest) = record { name = empty_name; functions = first ∷ rest } ∷ []

-- or in one that is added where it has none
abbrev pub views_of_object : Members → Placed → List ℕ → List StateView
views_of_object members o lacking =
    map (state_view members o.source.names.now lacking) o.object.states.items ++ (if list_any (λ (state : PexState). number_at o.source.names.now state.name == empty_name) o.object.states.items then [] else added_view (lacking_declared members lacking))

abbrev pub views_of : Members → List Placed → List ScriptHead → List (List StateView)
views_of members (o ∷ objects) (head ∷ heads) =
    views_of_object members o head.lacking.items ∷ views_of members objects heads
views_of members _ _ = []

-- ---- a set
module _ {set : JudgedSet} (whole : IsJudgedSet set) where
  abbrev pub tables : SetHeads
  tables = whole.judged.loaded.set

  abbrev pub parents : List (Option ℕ)
  parents = parents_in tables.objects

  abbrev pub objects : List Placed
  objects = placed_objects whole.judged.sources

  abbrev pub heads : List ScriptHead
  heads = tables.heads.items

  abbrev pub members : Members
  members = members_of whole.judged.members

  abbrev pub views : List (List StateView)
  views = views_of members objects heads

  abbrev pub property_heads : List (List PropertySignature)
  property_heads = map (λ (head : ScriptHead). head.properties.items) heads

  -- the members of all scripts, in the order in which they are collected
  abbrev pub collected_members : MemberLists
  collected_members = all_members tables.table.descent objects heads
