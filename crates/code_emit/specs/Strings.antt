-- The strings of a file, and the names that are known by numbers.
use Rattle.std.specs.Prelude.{◌≡◌, ℕ, ◌+◌, ◌*◌, List, [], ◌∷◌, ◌++◌, map, Option, None, Some, IfSome, if◌then◌else◌, slice_get, option_map, codes}
use Rattle.std.specs.Fmt.{decimal}
use Rattle.std.specs.List.{AllByRecursion, list_any}
use Rattle.std.specs.Str.{bytes_eq}
use Rattle.core_tree.specs.declared.core_type.CoreType.{CoreType}
use Rattle.core_tree.specs.declared.core_type.CoreType.TheVariants as kinds
use Rattle.core_tree.specs.declared.script.CoreScript.{CoreScript}
use Rattle.core_tree.specs.declared.script.CoreSet.{CoreSet}
use Rattle.pex_values.specs.Shape.{IsReference}
use Rattle.code_emit.specs.declared.strings.Numbered.{Numbered}
use Rattle.code_emit.specs.declared.strings.Numbered.TheVariants as numbered
use Rattle.code_emit.specs.declared.strings.Source.{Source}

-- a script, and the set in which it stands
pub record Origin : Type 0 where
  pub set : CoreSet
  pub script : CoreScript

abbrev pub origin_of : Source → Origin
origin_of source = record { set = source.set.now; script = source.script.now }

-- the names of the set's scripts by number, and those of the script's variables
pub record Home : Type 0 where
  pub scripts : List (List ℕ)
  pub variables : List (List ℕ)

abbrev pub home_of : Origin → Home
home_of from = record {
  scripts = map (λ script. script.name) from.set.scripts.items;
  variables = map (λ variable. variable.name) from.script.variables.items;
}

-- what the strings are of, and the strings
pub record Table : Type 0 where
  pub home : Home
  pub strings : List (List ℕ)

-- the strings with this one among them, which goes last where it wasn't there
abbrev pub with_string : List (List ℕ) → List ℕ → List (List ℕ)
with_string strings string = if list_any (bytes_eq string) strings then strings else strings ++ string ∷ []

-- ---- references
-- the reference leads to this string
pub record Reads (strings : List (List ℕ)) (reference : ℕ) (string : List ℕ) : Type 0 where
  pub there : slice_get strings reference ≡ Some string

-- the reference leads to this name, and there is such a name
abbrev pub ReadsName : List (List ℕ) → ℕ → Option (List ℕ) → Type 0
ReadsName strings reference None = ⊥
ReadsName strings reference (Some name) = Reads strings reference name

-- ---- names
-- what stands for an array's type behind the name of its elements' type
abbrev pub array_name : List ℕ → List ℕ
array_name name = name ++ codes "[]"

-- the name of a type, where its script is there
abbrev pub type_name : List (List ℕ) → Option CoreType → Option (List ℕ)
type_name scripts None = Some (codes "None")
type_name scripts (Some kinds.Int) = Some (codes "Int")
type_name scripts (Some kinds.Bool) = Some (codes "Bool")
type_name scripts (Some kinds.Text) = Some (codes "String")
type_name scripts (Some kinds.IntArray) = Some (codes "Int[]")
type_name scripts (Some kinds.BoolArray) = Some (codes "Bool[]")
type_name scripts (Some kinds.TextArray) = Some (codes "String[]")
type_name scripts (Some (kinds.Script number)) = slice_get scripts number
type_name scripts (Some (kinds.ScriptArray number)) = option_map array_name (slice_get scripts number)

-- the name of the parameter, local or temporary of a number
abbrev pub local_name : ℕ → List ℕ
local_name number = codes "::temp" ++ decimal number

abbrev pub name_of : Home → Numbered → Option (List ℕ)
name_of home (numbered.Type kind) = type_name home.scripts kind
name_of home (numbered.Variable number) = slice_get home.variables number
name_of home (numbered.Local number) = Some (local_name number)
name_of home numbered.OwnInstance = Some (codes "self")

-- ---- names that were looked up already
abbrev pub type_number : Option CoreType → ℕ
type_number None = 0
type_number (Some kinds.Int) = 1
type_number (Some kinds.Bool) = 2
type_number (Some kinds.Text) = 3
type_number (Some kinds.IntArray) = 4
type_number (Some kinds.BoolArray) = 5
type_number (Some kinds.TextArray) = 6
type_number (Some (kinds.Script number)) = 7 + 2 * number
type_number (Some (kinds.ScriptArray number)) = 8 + 2 * number

-- where the place of a name is noted
abbrev pub noted_at : Numbered → ℕ
noted_at numbered.OwnInstance = 0
noted_at (numbered.Type kind) = 3 * type_number kind + 1
noted_at (numbered.Variable number) = 3 * number + 2
noted_at (numbered.Local number) = 3 * number + 3

-- each place that was noted is one of so many strings
abbrev pub AreNoted : ℕ → List (Option ℕ) → Type 0
AreNoted strings noted = AllByRecursion (λ place. IfSome place (IsReference strings)) noted

-- each place that was noted of a name is that of the name
abbrev pub AreNamed : Table → List (Option ℕ) → Type 0
AreNamed table noted =
    (name : Numbered) (place : ℕ) → slice_get noted (noted_at name) ≡ Some (Some place) → ReadsName table.strings place (name_of table.home name)
