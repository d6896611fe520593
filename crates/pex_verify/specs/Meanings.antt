-- What names mean as names of types.
use Rattle.std.specs.Prelude.{ℕ, Bool, false, List, Option, Some, None, slice_index_or}
use Rattle.std.specs.Option.{option_map}
use Rattle.core_tree.specs.declared.core_type.CoreType.{CoreType}
use Rattle.core_tree.specs.declared.core_type.CoreType.TheVariants as kinds
use Rattle.core_tree.specs.Values.{holds_none}
use Rattle.core_tree.specs.Values.{element_kind}
use Rattle.pex_verify.specs.declared.value_type.ValueType.{ValueType}
use Rattle.pex_verify.specs.declared.value_type.ValueType.TheVariants.{Nothing, Float, Unknown, Of}

-- the meanings of names, by the numbers of the names, in a set of so many scripts
pub record Meanings : Type 0 where
  pub scripts : ℕ
  pub meanings : List ValueType

-- as the name of the type of a result or a local
abbrev pub result_meaning : Meanings → ℕ → ValueType
result_meaning types name = slice_index_or types.meanings name Unknown

abbrev pub where_none_is_none : ValueType → ValueType
where_none_is_none Nothing = Unknown
where_none_is_none Float = Float
where_none_is_none Unknown = Unknown
where_none_is_none (Of kind) = Of kind

-- as the name of any other type, where None is none
abbrev pub value_meaning : Meanings → ℕ → ValueType
value_meaning types name = where_none_is_none (result_meaning types name)

-- the type of a result or a local, which may have none
abbrev pub of_result : Option CoreType → ValueType
of_result None = Nothing
of_result (Some kind) = Of kind

-- ---- kinds of types
-- whether it is a script type or an array type, to which None belongs
abbrev pub takes_none : ValueType → Bool
takes_none (Of kind) = holds_none kind
takes_none _ = false

-- of the elements of an array type
abbrev pub element_type : ValueType → Option ValueType
element_type (Of kind) = option_map (λ element. Of element) (element_kind kind)
element_type _ = None

-- the script of a script type
abbrev pub script_type : ValueType → Option ℕ
script_type (Of (kinds.Script script)) = Some script
script_type _ = None
