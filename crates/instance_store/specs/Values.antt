-- What the values of a store are compared with.
use Rattle.std.specs.Prelude.{ℕ, ◌==◌, Bool, true, false, List, ℤ, not, if◌then◌else◌}
use Rattle.std.specs.Ordering.{int_eq}
use Rattle.std.specs.Str.{str_eq_ignore_ascii_case}
use Rattle.core_tree.specs.declared.value.Value.{Value}
use Rattle.core_tree.specs.declared.value.Value.TheVariants as values

abbrev pub is_none_value : Value → Bool
is_none_value values.NoneValue = true
is_none_value (values.Int number) = false
is_none_value (values.Bool truth) = false
is_none_value (values.Text text) = false
is_none_value (values.Instance instance) = false
is_none_value (values.Array array) = false

abbrev pub is_int : ℤ → Value → Bool
is_int number values.NoneValue = false
is_int number (values.Int other) = int_eq number other
is_int number (values.Bool truth) = false
is_int number (values.Text text) = false
is_int number (values.Instance instance) = false
is_int number (values.Array array) = false

abbrev pub is_bool : Bool → Value → Bool
is_bool truth values.NoneValue = false
is_bool truth (values.Int number) = false
is_bool truth (values.Bool other) = if truth then other else not other
is_bool truth (values.Text text) = false
is_bool truth (values.Instance instance) = false
is_bool truth (values.Array array) = false

abbrev pub is_same_text : List ℕ → Value → Bool
is_same_text text values.NoneValue = false
is_same_text text (values.Int number) = false
is_same_text text (values.Bool truth) = false
is_same_text text (values.Text other) = str_eq_ignore_ascii_case text other
is_same_text text (values.Instance instance) = false
is_same_text text (values.Array array) = false

abbrev pub is_instance : ℕ → Value → Bool
is_instance number values.NoneValue = false
is_instance number (values.Int other) = false
is_instance number (values.Bool truth) = false
is_instance number (values.Text text) = false
is_instance number (values.Instance other) = number == other
is_instance number (values.Array array) = false

abbrev pub is_array : ℕ → Value → Bool
is_array number values.NoneValue = false
is_array number (values.Int other) = false
is_array number (values.Bool truth) = false
is_array number (values.Text text) = false
is_array number (values.Instance instance) = false
is_array number (values.Array other) = number == other

-- the answer of a script's `==`: texts with the case of A to Z ignored, all else the same value
abbrev pub equals : Value → Value → Bool
equals values.NoneValue other = is_none_value other
equals (values.Int number) other = is_int number other
equals (values.Bool truth) other = is_bool truth other
equals (values.Text text) other = is_same_text text other
equals (values.Instance number) other = is_instance number other
equals (values.Array number) other = is_array number other
