-- What names of types mean in a set of scripts, and what functions its scripts have.
use Rattle.std.specs.Prelude.{ℕ, List, codes, length, map, nat_lt, Option, Some, None, option_and_then, option_map, if◌then◌else◌}
use Rattle.std.specs.Str.{bytes_eq}
use Rattle.core_tree.specs.InRange.{Signature, Signatures}
use Rattle.core_tree.specs.declared.core_type.CoreType.{CoreType}
use Rattle.core_tree.specs.declared.core_type.CoreType.TheVariants as types
use Rattle.line_parser.specs.declared.tree.Heading.{Heading}
use Rattle.line_parser.specs.declared.tree.TypeName.{TypeName}
use Rattle.script_linker.specs.Lookup.{script_named}
use Rattle.script_linker.specs.declared.set.SourceFile.{SourceFile}

-- ---- names of types

-- the type of the instances of a script. The first three scripts, Debug, Utility and Scene, are no types
abbrev pub script_type : ℕ → Option CoreType
script_type number = if nat_lt number 3 then None else Some (types.Script number)

-- `Int`, `Bool` and `String`
abbrev pub plain_type : List ℕ → Option CoreType
plain_type word =
    if bytes_eq word (codes "Int") then Some types.Int
    else (if bytes_eq word (codes "Bool") then Some types.Bool
    else (if bytes_eq word (codes "String") then Some types.Text else None))

abbrev pub type_or : Option CoreType → Option CoreType → Option CoreType
type_or (Some kind) other = Some kind
type_or None other = other

-- the type of this name that is no array
abbrev pub element_named : List SourceFile → List ℕ → Option CoreType
element_named set word = type_or (plain_type word) (option_and_then script_type (script_named set word))

-- the type of arrays of this element type
abbrev pub array_of : CoreType → CoreType
array_of types.Int = types.IntArray
array_of types.Bool = types.BoolArray
array_of types.Text = types.TextArray
array_of (types.Script script) = types.ScriptArray script
array_of array = array

-- the type that is written so, where there is one
abbrev pub type_named : List SourceFile → TypeName → Option CoreType
type_named set name =
    if name.is_array then option_map array_of (element_named set name.word) else element_named set name.word

-- ---- functions

abbrev pub signature_of : Heading → Signature
signature_of heading = record { name = heading.name; parameters = length heading.parameters.items }

-- the functions of the empty state of a script
abbrev pub file_signatures : SourceFile → List Signature
file_signatures file = map (λ function. signature_of function.heading) file.script.functions.items

-- the same of each script of a set
abbrev pub signatures : List SourceFile → Signatures
signatures files = map file_signatures files
