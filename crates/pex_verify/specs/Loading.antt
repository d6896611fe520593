-- The scripts of a set, as its objects say.
use Rattle.std.specs.Prelude.{◌≡◌, ℕ, ◌<◌, List, length, map, vec_len, slice_index_or, All}
use Rattle.core_tree.specs.declared.outline.OutlineScript.{OutlineScript}
use Rattle.papy_base.specs.Lineage.{AreRooted}
use Rattle.pex_set.specs.Objects.{parents_in}
use Rattle.pex_values.specs.declared.values.PexProperty.{PexProperty}
use Rattle.pex_verify.specs.declared.judged.JudgedProperty.{JudgedProperty}
use Rattle.pex_verify.specs.declared.judged.JudgedScript.{JudgedScript}
use Rattle.pex_verify.specs.declared.members.MemberTable.{MemberTable}
use Rattle.pex_verify.specs.declared.object.Loader.{Loader}
use Rattle.pex_verify.specs.declared.scope.Home.{Home}
use Rattle.pex_verify.specs.declared.scripts.SetHeads.{SetHeads}
use Rattle.pex_verify.specs.declared.sources.DefaultMembers.{DefaultMembers}
use Rattle.pex_verify.specs.declared.sources.SetFile.{SetFile}
use Rattle.pex_verify.specs.Heads.{Placed, placed_objects, members_of, AreNumbered, AreHeads}
use Rattle.pex_verify.specs.Meanings.{result_meaning}
use Rattle.pex_verify.specs.Outlining.{IsOutlineOf}
use Rattle.pex_verify.specs.Pairs.{Paired}
use Rattle.pex_verify.specs.Properties.{IsProperty}
use Rattle.pex_verify.specs.Rules.{AreDistinct, EachReplaces, state_numbers}
use Rattle.pex_verify.specs.Sites.{site_of}
use Rattle.pex_verify.specs.States.{AreStates, states_written}
use Rattle.pex_verify.specs.Tables.{IsTable}
use Rattle.pex_verify.specs.Types.{IsValueTypeAmong}
use Rattle.pex_verify.specs.Variables.{variable_type, type_of_variable, AreVariables}

-- what is loaded for the properties of an object
abbrev pub AreProperties : Home → List JudgedProperty → Type 0
AreProperties home loaded =
    Paired PexProperty JudgedProperty (λ n p l. IsProperty home n p l) home.object.now.properties.items loaded

-- what is loaded for the object where this code stands
pub record IsScriptOf (home : Home) (script : JudgedScript) (outline : OutlineScript) : Type 0 where
  pub properties : AreProperties home script.properties.items
  pub states : AreStates (site_of home) (states_written home home.object.now.states.items) script.states.items
  pub distinct : AreDistinct (state_numbers home)
  pub replaces : All (EachReplaces home) home.object.now.states.items
  pub shape : IsOutlineOf home script outline

-- what all objects of a set are judged by
pub record Judged : Type 0 where
  pub set : SetHeads
  pub members : DefaultMembers

abbrev pub judged_by : Loader → Judged
judged_by loader = record { set = loader.set.now; members = loader.members.now }

abbrev pub judged_in : Home → Judged
judged_in home = record { set = home.set.now; members = home.members.now }

abbrev pub placed_at : Home → Placed
placed_at home = record { source = home.source.now; object = home.object.now }

-- what is loaded for an object as the script of this number
pub record IsObjectOf (judged : Judged) (here : ℕ) (placed : Placed) (script : JudgedScript) (outline : OutlineScript) : Type 0 where
  pub home : Home
  pub set : home.set.now ≡ judged.set
  pub members : home.members.now ≡ judged.members
  pub number : home.here ≡ here
  pub source : home.source.now ≡ placed.source
  pub object : home.object.now ≡ placed.object
  pub loaded : IsScriptOf home script outline

-- the same, with the types, the names and the initial values of the script's variables
pub record IsWholeObject (judged : Judged) (here : ℕ) (placed : Placed) (script : JudgedScript) (outline : OutlineScript) : Type 0 where
  pub object : IsObjectOf judged here placed script outline
  pub variables : map variable_type outline.variables.items ≡ map (type_of_variable judged.set.types placed.source.names.now) placed.object.variables.items
  pub initial : AreVariables placed.source placed.object.variables.items outline.variables.items

-- the scripts and outlines that are loaded for these objects, in order
pub record AreObjects (judged : Judged) (objects : List Placed) (scripts : List JudgedScript) (outlines : List OutlineScript) : Type 0 where
  pub script_count : length objects ≡ length scripts
  pub outline_count : length objects ≡ length outlines
  pub each : (n : ℕ) (o : Placed) (s : JudgedScript) (l : OutlineScript) → n < length objects
      → IsWholeObject judged n (slice_index_or objects n o) (slice_index_or scripts n s) (slice_index_or outlines n l)

-- what is loaded for the objects of these files, and how others found their members
pub record IsLoadedSet (members : DefaultMembers) (sources : List SetFile) (scripts : List JudgedScript) (outlines : List OutlineScript) (table : MemberTable) : Type 0 where
  pub set : SetHeads
  pub numbered : AreNumbered (placed_objects sources) set.objects
  pub heads : AreHeads (members_of members) (parents_in set.objects) (placed_objects sources) set.heads.items
  pub objects : AreObjects (record { set = set; members = members }) (placed_objects sources) scripts outlines
  -- no script is above itself, and the scripts of types are among those of the set
  pub rooted : AreRooted (parents_in set.objects)
  pub meanings : (name : ℕ) → IsValueTypeAmong (vec_len set.heads) (result_meaning set.types name)
  pub is_table : IsTable (parents_in set.objects) (placed_objects sources) set.heads.items set.table
  pub same_table : set.table ≡ table
