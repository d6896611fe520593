-- How the JSON value of a text is read.
use Rattle.std.specs.Prelude.{◌≡◌, List, [], ◌∷◌, Result, Err, String, string_bytes}
use Rattle.std.specs.declared.alloc.Global.{Global}
use Rattle.serde_json.specs.Data.{Members, no_members, put}
use Rattle.serde_json.specs.View.{view}
use Rattle.serde_json.specs.declared.value.Value.{Value}
use Rattle.scene_reader.specs.declared.fault.ReadFault.{ReadFault}
use Rattle.scene_reader.specs.declared.fault.ReadFault.TheVariants.{Invalid}

-- a fault that isn't one of memory
abbrev pub IsRefusal : {T : Type 0} → Result T ReadFault → Type 0
IsRefusal result = result ≡ Err Invalid

-- the members with these put in one after another, so that the last of equal keys stays
abbrev pub put_from : Members → List (String Global × Value) → Members
put_from members [] = members
put_from members (e ∷ more) = put_from (put (string_bytes e.0) (view e.1) members) more

abbrev pub put_all : List (String Global × Value) → Members
put_all entries = put_from no_members entries
