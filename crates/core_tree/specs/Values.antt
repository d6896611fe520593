-- What values of a type begin as, and which values take memory.
use Rattle.std.specs.Prelude.{ℕ, ℤ, Bool, true, false, pos, negsuc, Option, Some, None, []}
use Rattle.core_tree.specs.declared.core_type.CoreType.{CoreType}
use Rattle.core_tree.specs.declared.core_type.CoreType.TheVariants as kinds
use Rattle.core_tree.specs.declared.value.Value.{Value}
use Rattle.core_tree.specs.declared.value.Value.TheVariants as values

abbrev pub is_text : Value → Bool
is_text values.NoneValue = false
is_text (values.Int number) = false
is_text (values.Bool truth) = false
is_text (values.Text text) = true
is_text (values.Instance instance) = false
is_text (values.Array array) = false

-- ---- types
-- of the elements of an array type
abbrev pub element_kind : CoreType → Option CoreType
element_kind kinds.IntArray = Some kinds.Int
element_kind kinds.BoolArray = Some kinds.Bool
element_kind kinds.TextArray = Some kinds.Text
element_kind (kinds.ScriptArray script) = Some (kinds.Script script)
element_kind _ = None

-- whether None is a value of it
abbrev pub holds_none : CoreType → Bool
holds_none kinds.Int = false
holds_none kinds.Bool = false
holds_none kinds.Text = false
holds_none _ = true

abbrev pub is_array_type : CoreType → Bool
is_array_type kinds.Int = false
is_array_type kinds.Bool = false
is_array_type kinds.Text = false
is_array_type (kinds.Script script) = false
is_array_type kinds.IntArray = true
is_array_type kinds.BoolArray = true
is_array_type kinds.TextArray = true
is_array_type (kinds.ScriptArray script) = true

-- ---- places in arrays
-- a place as a script sees it, and -1 where there is none
abbrev pub place_number : Option ℕ → ℤ
place_number None = negsuc 0
place_number (Some place) = pos place

-- ---- defaults
-- what is there before anything was stored
abbrev pub default_of : CoreType → Value
default_of kinds.Int = values.Int (pos 0)
default_of kinds.Bool = values.Bool false
default_of kinds.Text = values.Text []
default_of _ = values.NoneValue

-- of a result, or None where there is none
abbrev pub default_result : Option CoreType → Value
default_result None = values.NoneValue
default_result (Some kind) = default_of kind
