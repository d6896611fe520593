-- What operands are worth, and what is stored in them.
use Rattle.std.specs.Prelude.{ℕ, List, [], ◌++◌, map, Option, Some, None, slice_get, slice_index_or, slice_set}
use Rattle.core_tree.specs.declared.core_type.CoreType.{CoreType}
use Rattle.core_tree.specs.declared.core_type.CoreType.TheVariants as kinds
use Rattle.core_tree.specs.declared.outline.OutlineVariable.{OutlineVariable}
use Rattle.core_tree.specs.declared.value.Value.{Value}
use Rattle.core_tree.specs.declared.value.Value.TheVariants as values
use Rattle.core_tree.specs.Outlines.{ScriptShape}
use Rattle.papy_base.specs.declared.faults.StackFault.{StackFault}
use Rattle.script_meaning.specs.Evaluation.{self_value, state_changed}
use Rattle.script_meaning.specs.Requests.{Sight, Setting, faulted_where}
use Rattle.script_meaning.specs.Values.{text_of, script_name}
use Rattle.core_tree.specs.Values.{default_result}
use Rattle.script_meaning.specs.World.{Place, variable_of, with_variable}
use Rattle.code_meaning.specs.Code.{Operand, Literal, Slot, Variable, Itself, StateText, Function, Script}

-- ---- what stays and what changes while a body runs
-- the scripts of the set, and the script and the function of the body
pub record Home : Type 0 where
  pub setting : Setting
  pub scripts : List Script
  pub script : ℕ
  pub function : Function

-- the values of the parameters and locals, and what the body may see
pub record Inner : Type 0 where
  pub slots : List Value
  pub sight : Sight

-- ---- reading
abbrev pub worth : Home → Inner → Operand → Value
worth home inner (Literal value) = value
worth home inner (Slot number) = slice_index_or inner.slots number values.NoneValue
worth home inner (Variable number) = variable_of inner.sight.variables home.script number
worth home inner Itself = self_value home.setting.self
worth home inner StateText = values.Text inner.sight.state

-- ---- types
abbrev pub slot_kinds : Function → List (Option CoreType)
slot_kinds function = map (λ kind. Some kind) function.parameters ++ function.locals

abbrev pub variables_in : Option ScriptShape → List OutlineVariable
variables_in None = []
variables_in (Some script) = script.variables

abbrev pub kind_in : Option OutlineVariable → Option CoreType
kind_in None = None
kind_in (Some variable) = Some variable.kind

-- the type of an identifier in a function of a script, none where it is None
abbrev pub type_of : List ScriptShape → ℕ → Function → Operand → Option CoreType
type_of outline script function (Literal value) = None
type_of outline script function (Slot number) = slice_index_or (slot_kinds function) number None
type_of outline script function (Variable number) =
    kind_in (slice_get (variables_in (slice_get outline script)) number)
type_of outline script function Itself = Some (kinds.Script script)
type_of outline script function StateText = Some kinds.Text

abbrev pub kind_of : Home → Operand → Option CoreType
kind_of home operand = type_of home.setting.outline home.script home.function operand

-- the default of a result's type
abbrev pub default_at : Home → Operand → Value
default_at home result = default_result (kind_of home result)

-- ---- writing
abbrev pub with_value : Home → Operand → Value → Inner → Inner
with_value home (Literal literal) value inner = inner
with_value home (Slot number) value inner = record inner { slots = slice_set inner.slots number value }
with_value home (Variable number) value inner =
    record inner { sight = record inner.sight { variables = with_variable inner.sight.variables home.script number value } }
with_value home Itself value inner = inner
with_value home StateText value inner =
    record inner { sight = state_changed home.setting.self (text_of value) inner.sight }

-- a result of type None drops what is stored in it
abbrev pub where_kept : Option CoreType → Inner → Inner → Inner
where_kept None kept dropped = dropped
where_kept (Some kind) kept dropped = kept

abbrev pub stored : Home → Operand → Value → Inner → Inner
stored home result value inner = where_kept (kind_of home result) (with_value home result value inner) inner

-- ---- faults
-- of the instruction of this number
abbrev pub place_of : Home → ℕ → Place
place_of home at =
    record { script = script_name home.setting.outline home.script; function = home.function.name; line = slice_index_or home.function.lines at 0 }

abbrev pub noted : Home → ℕ → Option StackFault → Inner → Inner
noted home at fault inner =
    record inner { sight = faulted_where home.setting (place_of home at) fault inner.sight }
