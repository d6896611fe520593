-- How types are judged where code stands.
use Rattle.std.specs.Prelude.{◌≡◌, Bool, false, List, Option, Some, None, slice_get, slice_index_or}
use Rattle.core_tree.specs.declared.core_type.CoreType.{CoreType}
use Rattle.core_tree.specs.declared.core_type.CoreType.TheVariants as kinds
use Rattle.core_tree.specs.declared.outline.OutlineVariable.{OutlineVariable}
use Rattle.papy_base.specs.declared.descent.Span.{Span}
use Rattle.pex_verify.specs.declared.judged.JudgedOperand.{JudgedOperand as Operand}
use Rattle.pex_verify.specs.declared.judged.JudgedOperand.TheVariants as loaded
use Rattle.pex_verify.specs.declared.scope.FunctionScope.{FunctionScope}
use Rattle.pex_verify.specs.declared.value_type.ValueType.{ValueType}
use Rattle.pex_verify.specs.declared.value_type.ValueType.TheVariants.{Nothing, Unknown, Of}
use Rattle.pex_verify.specs.Fitting.{FitsIn, CastsIn, Stored}

-- ---- operands
abbrev pub variable_type : Option OutlineVariable → ValueType
variable_type None = Unknown
variable_type (Some variable) = Of variable.kind

-- what an operand's value is. A name that stands for itself has none
abbrev pub type_by : FunctionScope → Operand → ValueType
type_by scope loaded.NoneValue = Nothing
type_by scope (loaded.Word name) = Unknown
type_by scope (loaded.Quoted text) = Of kinds.Text
type_by scope (loaded.Int number) = Of kinds.Int
type_by scope (loaded.Bool truth) = Of kinds.Bool
type_by scope (loaded.Slot number) = slice_index_or scope.slots.now.list.items number Unknown
type_by scope (loaded.Variable number) =
    variable_type (slice_get scope.home.now.variables.now.list.items number)
type_by scope loaded.Instance = Of (kinds.Script scope.home.now.here)
type_by scope loaded.State = Of kinds.Text

-- the type of what can be stored in an operand, none where it isn't a parameter, a local, a variable or the state
abbrev pub stored_by : FunctionScope → Operand → Option ValueType
stored_by scope (loaded.Slot number) = Some (type_by scope (loaded.Slot number))
stored_by scope (loaded.Variable number) = Some (type_by scope (loaded.Variable number))
stored_by scope loaded.State = Some (type_by scope loaded.State)
stored_by scope _ = None

-- a Global function names no variable
abbrev pub IsSeenIn : Bool → Operand → Type 0
IsSeenIn is_global (loaded.Variable number) = is_global ≡ false
IsSeenIn is_global _ = Unit {0}

abbrev pub spans_of : FunctionScope → List Span
spans_of scope = scope.home.now.set.now.table.descent

-- the operand's value fits this type
abbrev pub IsFor : FunctionScope → ValueType → Operand → Type 0
IsFor scope wanted operand = FitsIn (spans_of scope) (type_by scope operand) wanted

-- the operand's value is of exactly this type
abbrev pub IsOf : FunctionScope → CoreType → Operand → Type 0
IsOf scope kind operand = type_by scope operand ≡ Of kind

-- a value of this type can be stored in the operand
abbrev pub Takes : FunctionScope → Operand → ValueType → Type 0
Takes scope to value = Stored (stored_by scope to) (FitsIn (spans_of scope) value)

-- the same of a value that is cast to the operand's type
abbrev pub TakesCast : FunctionScope → Operand → ValueType → Type 0
TakesCast scope to value = Stored (stored_by scope to) (CastsIn (spans_of scope) value)
