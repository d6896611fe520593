-- What names mean as names of types, as the meaning of files tells it.
use Rattle.std.specs.Prelude.{◌≡◌, ℕ, ◌<◌, List, [], ◌++◌, Option, Some, None, length, slice_index_or, bytes_eq, nat_lt, if◌then◌else◌, codes}
use Rattle.std.specs.Option.{option_and_then}
use Rattle.std.specs.Str.{str_to_ascii_lowercase}
use Rattle.core_tree.specs.declared.core_type.CoreType.{CoreType}
use Rattle.core_tree.specs.declared.core_type.CoreType.TheVariants as kinds
use Rattle.pex_meaning.specs.Names.{first_named as first_meant, type_named}
use Rattle.pex_meaning.specs.Prelude.{libraries}
use Rattle.pex_set.specs.Names.{number_in}
use Rattle.pex_set.specs.Objects.{first_named}
use Rattle.pex_set.specs.declared.objects.Head.{Head}
use Rattle.pex_verify.specs.declared.value_type.ValueType.{ValueType}
use Rattle.pex_verify.specs.declared.value_type.ValueType.TheVariants.{Nothing, Float, Unknown, Of}
use Rattle.pex_verify.specs.Meanings.{Meanings, result_meaning}

-- the type of values that a name means, if any
abbrev pub kind_of : ValueType → Option CoreType
kind_of Nothing = None
kind_of Float = None
kind_of Unknown = None
kind_of (Of kind) = Some kind

-- ---- words
abbrev pub IsLowered : List ℕ → Type 0
IsLowered name = str_to_ascii_lowercase name ≡ name

-- the meaning of the words of the language, with A to Z read as a to z
abbrev pub word_in : List ℕ → Option ValueType
word_in name =
    if bytes_eq name (codes "int") then Some (Of kinds.Int)
    else if bytes_eq name (codes "bool") then Some (Of kinds.Bool)
    else if bytes_eq name (codes "string") then Some (Of kinds.Text)
    else if bytes_eq name (codes "float") then Some Float
    else if bytes_eq name (codes "float[]") then Some Float
    else if bytes_eq name (codes "none") then Some Unknown
    else None

-- ---- scripts
-- the type of a script's instances. The first three scripts are libraries, which have none
abbrev pub script_kind : Option ℕ → Option CoreType
script_kind None = None
script_kind (Some script) = if nat_lt script 3 then None else Some (kinds.Script script)

-- the scripts of these names are these objects, by the numbers of the names
pub record AreScripts (names : List (List ℕ)) (objects : List Head) (scripts : List (List ℕ)) : Type 0 where
  pub each : (name : List ℕ) → option_and_then (first_named objects) (number_in names name) ≡ first_meant name scripts
  pub few : length objects < 65536
  pub rest : List (List ℕ)
  pub first : scripts ≡ libraries ++ rest

-- ---- tables
-- the meanings of a table's names, in the order of their numbers
abbrev pub AreMeanings : List (List ℕ) → List Head → ℕ → List ValueType → Type 0
AreMeanings names objects count meanings =
    (scripts : List (List ℕ)) (number : ℕ) → AreScripts names objects scripts → number < count
    → kind_of (slice_index_or meanings number Unknown) ≡ type_named scripts (slice_index_or names number [])

-- whoever names a type by a text finds it by the text's number
abbrev pub AreTypes : List (List ℕ) → List Head → Meanings → Type 0
AreTypes names objects types =
    (scripts : List (List ℕ)) (name : List ℕ) (number : ℕ) → AreScripts names objects scripts → number_in names name ≡ Some number
    → kind_of (result_meaning types number) ≡ type_named scripts name
