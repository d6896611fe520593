-- What names mean in a set of files, with case ignored: which script has a name, and which type it means.
use Rattle.std.specs.Prelude.{ℕ, ◌-◌, ◌==◌, Bool, if◌then◌else◌, List, [], ◌∷◌, ◌++◌, length, map, take, position, nat_eq, Option, None, Some, unwrap_or, option_map, option_and_then, slice_index_or, codes}
use Rattle.std.specs.List.{ends_with, flat_map, list_any}
use Rattle.std.specs.Option.{option_or}
use Rattle.std.specs.Str.{str_eq_ignore_ascii_case}
use Rattle.core_tree.specs.declared.core_type.CoreType.{CoreType}
use Rattle.core_tree.specs.declared.core_type.CoreType.TheVariants as kinds
use Rattle.pex_values.specs.Plain.{PlainPex}
use Rattle.pex_meaning.specs.Prelude.{prelude, libraries}

-- ---- names
-- the string of a string table to which a reference leads
abbrev pub string_at : List (List ℕ) → ℕ → List ℕ
string_at strings reference = slice_index_or strings reference []

abbrev pub are_same : List ℕ → List ℕ → Bool
are_same left right = str_eq_ignore_ascii_case left right

-- the number of the first of these names that is this one
abbrev pub first_named : List ℕ → List (List ℕ) → Option ℕ
first_named name names = position (are_same name) names

abbrev pub is_among : List ℕ → List (List ℕ) → Bool
is_among name names = list_any (are_same name) names

abbrev pub is_empty : List ℕ → Bool
is_empty name = length name == 0

-- ---- scripts
abbrev pub object_names : PlainPex → List (List ℕ)
object_names file = map (λ object. string_at file.strings object.name) file.objects

-- by the numbers of the scripts: those of the prelude, then the objects of the files in order
abbrev pub script_names : List PlainPex → List (List ℕ)
script_names files = flat_map object_names (prelude ∷ files)

-- ---- types
-- names that mean no type, also where a script has them
abbrev pub no_types : List (List ℕ)
no_types = map codes ("None" ∷ "Float" ∷ "Float[]" ∷ []) ++ libraries

-- the type that a word means, which is one of the language or else the name of a script
abbrev pub type_of_word : List (List ℕ) → List ℕ → Option CoreType
type_of_word scripts name =
    if are_same name (codes "Int") then Some kinds.Int
    else if are_same name (codes "Bool") then Some kinds.Bool
    else if are_same name (codes "String") then Some kinds.Text
    else if is_among name no_types then None
    else option_map (λ script. kinds.Script script) (first_named name scripts)

abbrev pub array_of : CoreType → Option CoreType
array_of kinds.Int = Some kinds.IntArray
array_of kinds.Bool = Some kinds.BoolArray
array_of kinds.Text = Some kinds.TextArray
array_of (kinds.Script script) = Some (kinds.ScriptArray script)
array_of _ = None

-- what stands before `[]`
abbrev pub element_name : List ℕ → Option (List ℕ)
element_name name = if ends_with nat_eq name (codes "[]") then Some (take (length name - 2) name) else None

-- the type of a result or of a local, which may be None, and then has no type
abbrev pub type_named : List (List ℕ) → List ℕ → Option CoreType
type_named scripts name =
    option_or (option_and_then array_of (option_and_then (type_of_word scripts) (element_name name))) (type_of_word scripts name)

-- the type of a parameter, a variable or a property. In a verified set each of them has one
abbrev pub value_type : List (List ℕ) → List ℕ → CoreType
value_type scripts name = unwrap_or (type_named scripts name) kinds.Int
