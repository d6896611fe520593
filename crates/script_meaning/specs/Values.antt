-- The operations of scripts on values.
use Rattle.std.specs.Prelude.{ℕ, zero, suc, ◌+◌, ◌==◌, Bool, true, false, not, ◌&&◌, nat_lt, nat_le, if◌then◌else◌, ℤ, pos, negsuc, ◌+ℤ◌, ◌-ℤ◌, ◌*ℤ◌, int_lt, int_le, int_div, int_rem, List, [], ◌∷◌, ◌++◌, length, codes, Option, Some, None, slice_get}
use Rattle.std.specs.List.{list_all, list_any}
use Rattle.std.specs.Fmt.{signed_decimal}
use Rattle.std.specs.Int.{w32, int_wrap}
use Rattle.std.specs.Ordering.{int_eq}
use Rattle.std.specs.Str.{str_eq_ignore_ascii_case}
use Rattle.core_tree.specs.declared.core_type.CoreType.{CoreType}
use Rattle.core_tree.specs.declared.core_type.CoreType.TheVariants as kinds
use Rattle.core_tree.specs.declared.operator.Arith.{Arith}
use Rattle.core_tree.specs.declared.operator.Arith.TheVariants as signs
use Rattle.core_tree.specs.declared.operator.Order.{Order}
use Rattle.core_tree.specs.declared.operator.Order.TheVariants as orders
use Rattle.core_tree.specs.declared.value.Value.{Value}
use Rattle.core_tree.specs.declared.value.Value.TheVariants as values
use Rattle.core_tree.specs.Outlines.{ScriptShape}
use Rattle.papy_base.specs.Decimal.{without_minus, int_value}
use Rattle.papy_base.specs.declared.faults.StackFault.{StackFault}
use Rattle.papy_base.specs.declared.faults.StackFault.TheVariants as faults

-- ---- parts of a value, where it is of that type
-- a Bool counts as 1 or 0, as a device takes it
abbrev pub number_of : Value → ℤ
number_of (values.Int number) = number
number_of (values.Bool truth) = if truth then pos 1 else pos 0
number_of _ = pos 0

abbrev pub text_of : Value → List ℕ
text_of (values.Text text) = text
text_of _ = []

abbrev pub instance_of : Value → Option ℕ
instance_of (values.Instance number) = Some number
instance_of _ = None

abbrev pub array_of : Value → Option ℕ
array_of (values.Array number) = Some number
array_of _ = None

-- ---- types
-- of the operands and the result of an operator
abbrev pub arith_kind : Arith → CoreType
arith_kind signs.Join = kinds.Text
arith_kind _ = kinds.Int

-- ---- scripts above scripts
abbrev pub parent_in : Option ScriptShape → Option ℕ
parent_in None = None
parent_in (Some script) = script.parent

-- the scripts from this one upward, at most so many
abbrev pub upward : ℕ → List ScriptShape → Option ℕ → List ℕ
upward zero outline next = []
upward (suc left) outline None = []
upward (suc left) outline (Some script) = script ∷ upward left outline (parent_in (slice_get outline script))

-- as many as there are scripts are enough, since no script is above itself
abbrev pub lineage : List ScriptShape → Option ℕ → List ℕ
lineage outline script = upward (length outline) outline script

abbrev pub is_child : List ScriptShape → ℕ → ℕ → Bool
is_child outline child parent = list_any (λ script. script == parent) (lineage outline (Some child))

abbrev pub name_in : Option ScriptShape → List ℕ
name_in None = []
name_in (Some script) = script.name

abbrev pub script_name : List ScriptShape → ℕ → List ℕ
script_name outline script = name_in (slice_get outline script)

-- ---- casts
abbrev pub is_true : Value → Bool
is_true values.NoneValue = false
is_true (values.Int number) = not (int_eq number (pos 0))
is_true (values.Bool truth) = truth
is_true (values.Text text) = not (length text == 0)
is_true (values.Instance number) = true
is_true (values.Array number) = true

abbrev pub is_digit : ℕ → Bool
is_digit byte = nat_le 48 byte && nat_le byte 57

-- an optional minus and one or more decimal digits, within 32 bits
abbrev pub is_int_text : List ℕ → Bool
is_int_text text =
    nat_lt 0 (length (without_minus text)) && list_all is_digit (without_minus text) && int_le (negsuc 2147483647) (int_value text) && int_le (int_value text) (pos 2147483647)

abbrev pub int_of_text : List ℕ → ℤ
int_of_text text = if is_int_text text then int_value text else pos 0

abbrev pub int_of : Value → ℤ
int_of (values.Int number) = number
int_of (values.Bool truth) = if truth then pos 1 else pos 0
int_of (values.Text text) = int_of_text text
int_of _ = pos 0

-- an instance by the names of its script and of itself, as `[Door <gate>]`
abbrev pub instance_text : List ScriptShape → Option (ℕ × List ℕ) → List ℕ
instance_text outline None = []
instance_text outline (Some instance) =
    codes "[" ++ script_name outline instance.0 ++ codes " <" ++ instance.1 ++ codes ">]"

-- what a cast to String gives. `instances` has the script and the name of each instance
abbrev pub written : List ScriptShape → List (ℕ × List ℕ) → Value → List ℕ
written outline instances values.NoneValue = codes "None"
written outline instances (values.Int number) = signed_decimal number
written outline instances (values.Bool truth) = if truth then codes "True" else codes "False"
written outline instances (values.Text text) = text
written outline instances (values.Instance number) = instance_text outline (slice_get instances number)
written outline instances (values.Array number) = codes "None"

-- whether an instance is of this script, or of one below it
abbrev pub is_of_script : List ScriptShape → ℕ → Option (ℕ × List ℕ) → Bool
is_of_script outline script None = false
is_of_script outline script (Some instance) = is_child outline instance.0 script

abbrev pub instance_as : List ScriptShape → List (ℕ × List ℕ) → ℕ → Value → Value
instance_as outline instances script (values.Instance number) =
    if is_of_script outline script (slice_get instances number) then values.Instance number else values.NoneValue
instance_as outline instances script value = value

abbrev pub cast_to : List ScriptShape → List (ℕ × List ℕ) → CoreType → Value → Value
cast_to outline instances kinds.Int value = values.Int (int_of value)
cast_to outline instances kinds.Bool value = values.Bool (is_true value)
cast_to outline instances kinds.Text value = values.Text (written outline instances value)
cast_to outline instances (kinds.Script script) value = instance_as outline instances script value
cast_to outline instances _ value = value

-- ---- equality: texts with the case of A to Z ignored, instances and arrays where they are the same one
abbrev pub same_truth : Bool → Bool → Bool
same_truth true other = other
same_truth false other = not other

abbrev pub equal : Value → Value → Bool
equal values.NoneValue values.NoneValue = true
equal (values.Int a) (values.Int b) = int_eq a b
equal (values.Bool a) (values.Bool b) = same_truth a b
equal (values.Text a) (values.Text b) = str_eq_ignore_ascii_case a b
equal (values.Instance a) (values.Instance b) = a == b
equal (values.Array a) (values.Array b) = a == b
equal _ _ = false

abbrev pub in_order : Order → ℤ → ℤ → Bool
in_order orders.Less a b = int_lt a b
in_order orders.LessEqual a b = int_le a b
in_order orders.Greater a b = int_lt b a
in_order orders.GreaterEqual a b = int_le b a

-- ---- arithmetic, which wraps at 32 bits. A value stands with the fault that gave it in place of another
abbrev pub Result : Type 0
Result = Value × Option StackFault

abbrev pub number : ℤ → Result
number n = (values.Int (int_wrap w32 n), None)

-- a quotient or a remainder, where the divisor isn't 0
abbrev pub divided : ℤ → ℤ → Result
divided divisor n = if int_eq divisor (pos 0) then (values.Int (pos 0), Some faults.DivideZero) else number n

abbrev pub text_limit : ℕ
text_limit = 1024

abbrev pub joined : List ℕ → List ℕ → Result
joined a b =
    if nat_lt text_limit (length a + length b) then (values.Text [], Some faults.TextTooLong) else (values.Text (a ++ b), None)

abbrev pub calculated : Arith → Value → Value → Result
calculated signs.Add a b = number (number_of a +ℤ number_of b)
calculated signs.Sub a b = number (number_of a -ℤ number_of b)
calculated signs.Mul a b = number (number_of a *ℤ number_of b)
calculated signs.Div a b = divided (number_of b) (int_div (number_of a) (number_of b))
calculated signs.Rem a b = divided (number_of b) (int_rem (number_of a) (number_of b))
calculated signs.Join a b = joined (text_of a) (text_of b)
