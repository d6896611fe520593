-- Typed code: by cases on opcodes, operands are of the types that the instruction asks for.
use Rattle.std.specs.Prelude.{◌≡◌, ◌⊎◌, ℕ, ◌≤◌, Bool, true, false, List, [], ◌∷◌, Option, Some, None, slice_get}
use Rattle.std.specs.List.{AllByRecursion}
use Rattle.core_tree.specs.declared.core_type.CoreType.{CoreType}
use Rattle.core_tree.specs.declared.core_type.CoreType.TheVariants as kinds
use Rattle.core_tree.specs.declared.value.Value.TheVariants as values
use Rattle.core_tree.specs.Outlines.{ScriptShape}
use Rattle.run_laws.specs.Fits.{Known, known, HasType, HaveTypes, is_native_at, Types}
use Rattle.core_tree.specs.Values.{holds_none}
use Rattle.run_laws.specs.Keeps.{IsVariable, IsOn}
use Rattle.script_meaning.specs.Requests.{result_of}
use Rattle.script_meaning.specs.Stacks.{Way, ByMethod, ByParent, ByGlobal, ByGet, BySet}
use Rattle.script_meaning.specs.Values.{is_child, lineage, parent_in}
use Rattle.core_tree.specs.Values.{element_kind}
use Rattle.code_meaning.specs.Code.{Operand, Literal, Slot, Variable, Itself, StateText, Instruction, Function, Access, Auto, Full, Script}
use Rattle.code_meaning.specs.Code as op
use Rattle.code_meaning.specs.Execution.{reply_result}
use Rattle.code_meaning.specs.LookUp.{BodyPlace, Body, script_of, function_at, FoundMethod, first_method, method_in, native_at, first_property}
use Rattle.code_meaning.specs.Operands.{slot_kinds, type_of}

-- ---- calls
-- parameters and result, as `is_global` wants it; a native function stands in the outline
abbrev pub MethodMeets : List ScriptShape → Bool → List CoreType → Option CoreType → Option FoundMethod → Type 0
MethodMeets outline is_global parameters result None = ⊥
MethodMeets outline is_global parameters result (Some method) =
    (method.function.parameters ≡ parameters) × (method.function.result ≡ result) × (method.function.is_global ≡ is_global) × (method.function.is_native ≡ true → (is_native_at outline (native_at method) ≡ true) × (result_of outline (native_at method) ≡ result))

abbrev pub AccessorMeets : List CoreType → Option CoreType → Option Function → Type 0
AccessorMeets parameters result None = ⊥
AccessorMeets parameters result (Some function) =
    (function.parameters ≡ parameters) × (function.result ≡ result) × (function.is_global ≡ false)

abbrev pub GetMeets : List ScriptShape → Option CoreType → Option (ℕ × ℕ × Access) → Type 0
GetMeets outline result None = ⊥
GetMeets outline result (Some (script, number, Auto variable is_read is_written)) =
    (is_read ≡ true) × ((kind : CoreType) × (result ≡ Some kind) × IsVariable outline script variable kind)
GetMeets outline result (Some (script, number, Full read write)) = AccessorMeets [] result read

abbrev pub SetMeets : List ScriptShape → List CoreType → Option CoreType → Option (ℕ × ℕ × Access) → Type 0
SetMeets outline parameters result None = ⊥
SetMeets outline parameters result (Some (script, number, Auto variable is_read is_written)) =
    (is_written ≡ true) × (result ≡ None) × ((kind : CoreType) × (parameters ≡ kind ∷ []) × IsVariable outline script variable kind)
SetMeets outline parameters result (Some (script, number, Full read write)) = AccessorMeets parameters result write

-- what is found by a way, whatever the state of the instance is, has these parameters and this result
abbrev pub Calls : List ScriptShape → List Script → Option ℕ → Way → List CoreType → Option CoreType → Type 0
Calls outline scripts own (ByMethod name) parameters result =
    (state : List ℕ) → MethodMeets outline false parameters result (method_in scripts (lineage outline own) state name)
Calls outline scripts own (ByParent script name) parameters result =
    IsOn outline own script false × ((state : List ℕ) → MethodMeets outline false parameters result (method_in scripts (lineage outline (parent_in (slice_get outline script))) state name))
Calls outline scripts own (ByGlobal script name) parameters result =
    (own ≡ None) × MethodMeets outline true parameters result (first_method scripts (lineage outline (Some script)) [] name)
Calls outline scripts own (ByGet name) parameters result =
    (parameters ≡ []) × GetMeets outline result (first_property scripts (lineage outline own) name)
Calls outline scripts own (BySet name) parameters result =
    SetMeets outline parameters result (first_property scripts (lineage outline own) name)

-- ---- where code stands
pub record Scope : Type 0 where
  pub outline : List ScriptShape
  pub scripts : List Script
  pub script : ℕ
  pub function : Function

-- so on each instance of this script
abbrev pub CallsOn : Scope → ℕ → Way → List CoreType → Option CoreType → Type 0
CallsOn scope script way parameters result =
    (own : ℕ) → is_child scope.outline own script ≡ true → Calls scope.outline scope.scripts (Some own) way parameters result

-- ---- operands
-- a value of the one type fits the other: it is that type, or a script below it; None fits script and array types
abbrev pub Fits : List ScriptShape → Option CoreType → CoreType → Type 0
Fits outline None kind = holds_none kind ≡ true
Fits outline (Some (kinds.Script child)) (kinds.Script script) = is_child outline child script ≡ true
Fits outline (Some from) kind = from ≡ kind

-- a Global function names no variable
abbrev pub IsSeen : Scope → Operand → Type 0
IsSeen scope (Variable number) = scope.function.is_global ≡ false
IsSeen scope _ = Unit {0}

-- an operand whose value fits the type
abbrev pub Gives : Scope → CoreType → Operand → Type 0
Gives scope kind (Literal value) = HasType (known scope.outline [] []) kind value
Gives scope kind (Variable number) =
    (scope.function.is_global ≡ false) × ((from : CoreType) × IsVariable scope.outline scope.script number from × Fits scope.outline (Some from) kind)
Gives scope kind operand = Fits scope.outline (type_of scope.outline scope.script scope.function operand) kind

abbrev pub AllGive : Scope → List CoreType → List Operand → Type 0
AllGive scope [] [] = Unit {0}
AllGive scope (kind ∷ kinds) (first ∷ rest) = Gives scope kind first × AllGive scope kinds rest
AllGive scope _ _ = ⊥

-- the same where there may be no type: then it is the literal None, or a local of type None
abbrev pub GivesNone : Scope → Operand → Type 0
GivesNone scope (Literal value) = value ≡ values.NoneValue
GivesNone scope (Slot number) = type_of scope.outline scope.script scope.function (Slot number) ≡ None
GivesNone scope _ = ⊥

abbrev pub GivesResult : Scope → Option CoreType → Operand → Type 0
GivesResult scope None operand = GivesNone scope operand
GivesResult scope (Some kind) operand = Gives scope kind operand

-- a parameter, a local, a variable or `::State`
abbrev pub IsPlace : Scope → Operand → Type 0
IsPlace scope (Literal value) = ⊥
IsPlace scope Itself = ⊥
IsPlace scope operand = IsSeen scope operand

-- what holds of the type of a result, if it has one. A result of type None drops what is stored in it
abbrev pub Where : Option CoreType → (CoreType → Type 0) → Type 0
Where None holds = Unit {0}
Where (Some kind) holds = holds kind

-- a result that takes what fits its type
abbrev pub Takes : Scope → Operand → (CoreType → Type 0) → Type 0
Takes scope result fits = IsPlace scope result × Where (type_of scope.outline scope.script scope.function result) fits

-- a result that takes a value of this type
abbrev pub Stores : Scope → Operand → Option CoreType → Type 0
Stores scope result from = Takes scope result (Fits scope.outline from)

-- an array with elements of this type
abbrev pub GivesArray : Scope → Operand → CoreType → Type 0
GivesArray scope array element = (kind : CoreType) × (element_kind kind ≡ Some element) × Gives scope kind array

-- what `as` allows
abbrev pub Casts : Scope → Operand → CoreType → Type 0
Casts scope value kinds.Int = Gives scope kinds.Int value ⊎ (Gives scope kinds.Bool value ⊎ Gives scope kinds.Text value)
Casts scope value kinds.Bool = IsSeen scope value
Casts scope value kinds.Text =
    Gives scope kinds.Int value ⊎ (Gives scope kinds.Bool value ⊎ (Gives scope kinds.Text value ⊎ ((script : ℕ) × Gives scope (kinds.Script script) value)))
Casts scope value (kinds.Script script) = (from : ℕ) × Gives scope (kinds.Script from) value
Casts scope value kind = Gives scope kind value

-- ---- instructions, in the order of the opcodes
abbrev pub Computes : Scope → CoreType → Operand → Operand → Operand → Type 0
Computes scope kind result left right = Stores scope result (Some kind) × Gives scope kind left × Gives scope kind right

abbrev pub Compares : Scope → Operand → Operand → Operand → Type 0
Compares scope result left right = Stores scope result (Some kinds.Bool) × Gives scope kinds.Int left × Gives scope kinds.Int right

abbrev pub Searches : Scope → Operand → Operand → Operand → Operand → Type 0
Searches scope array result value start =
    Stores scope result (Some kinds.Int) × Gives scope kinds.Int start × ((element : CoreType) × GivesArray scope array element × Gives scope element value)

abbrev pub IsTyped : Scope → Instruction → Type 0
IsTyped scope op.Nop = Unit {0}
IsTyped scope (op.IAdd result left right) = Computes scope kinds.Int result left right
IsTyped scope (op.ISub result left right) = Computes scope kinds.Int result left right
IsTyped scope (op.IMul result left right) = Computes scope kinds.Int result left right
IsTyped scope (op.IDiv result left right) = Computes scope kinds.Int result left right
IsTyped scope (op.IMod result left right) = Computes scope kinds.Int result left right
IsTyped scope (op.Not result value) = Stores scope result (Some kinds.Bool) × IsSeen scope value
IsTyped scope (op.INeg result value) = Stores scope result (Some kinds.Int) × Gives scope kinds.Int value
IsTyped scope (op.Assign result value) = Takes scope result (λ kind. Gives scope kind value) × IsSeen scope value
IsTyped scope (op.Cast result value) = Takes scope result (Casts scope value) × IsSeen scope value
IsTyped scope (op.CmpEq result left right) =
    Stores scope result (Some kinds.Bool) × ((kind : CoreType) × Gives scope kind left × Gives scope kind right)
IsTyped scope (op.CmpLt result left right) = Compares scope result left right
IsTyped scope (op.CmpLe result left right) = Compares scope result left right
IsTyped scope (op.CmpGt result left right) = Compares scope result left right
IsTyped scope (op.CmpGe result left right) = Compares scope result left right
IsTyped scope (op.Jmp offset) = Unit {0}
IsTyped scope (op.JmpT condition offset) = IsSeen scope condition
IsTyped scope (op.JmpF condition offset) = IsSeen scope condition
IsTyped scope (op.CallMethod name object result more) =
    (script : ℕ) × (parameters : List CoreType) × (given : Option CoreType) × Gives scope (kinds.Script script) object × AllGive scope parameters more × Stores scope result given × CallsOn scope script (ByMethod name) parameters given
IsTyped scope (op.CallParent name result more) =
    (parameters : List CoreType) × (given : Option CoreType) × AllGive scope parameters more × Stores scope result given × (scope.function.is_global ≡ false) × CallsOn scope scope.script (ByParent scope.script name) parameters given
IsTyped scope (op.CallStatic script name result more) =
    (parameters : List CoreType) × (given : Option CoreType) × AllGive scope parameters more × Stores scope result given × Calls scope.outline scope.scripts None (ByGlobal script name) parameters given
IsTyped scope (op.Return value) = GivesResult scope scope.function.result value
IsTyped scope (op.StrCat result left right) = Computes scope kinds.Text result left right
IsTyped scope (op.PropGet name object result) =
    (script : ℕ) × (given : CoreType) × Gives scope (kinds.Script script) object × Stores scope result (Some given) × CallsOn scope script (ByGet name) [] (Some given)
IsTyped scope (op.PropSet name object value) =
    (script : ℕ) × (kind : CoreType) × Gives scope (kinds.Script script) object × Gives scope kind value × CallsOn scope script (BySet name) (kind ∷ []) None
IsTyped scope (op.ArrayCreate result size) =
    (size ≤ 128) × IsPlace scope result × ((kind : CoreType) × (element : CoreType) × (type_of scope.outline scope.script scope.function result ≡ Some kind) × (element_kind kind ≡ Some element))
IsTyped scope (op.ArrayLength result array) =
    Stores scope result (Some kinds.Int) × ((element : CoreType) × GivesArray scope array element)
IsTyped scope (op.ArrayGetElement result array index) =
    (element : CoreType) × GivesArray scope array element × Stores scope result (Some element) × Gives scope kinds.Int index
IsTyped scope (op.ArraySetElement array index value) =
    (element : CoreType) × GivesArray scope array element × Gives scope kinds.Int index × Gives scope element value
IsTyped scope (op.ArrayFindElement array result value start) = Searches scope array result value start
IsTyped scope (op.ArrayRFindElement array result value start) = Searches scope array result value start

-- ---- sets
-- each function, wherever it stands, has typed code, and no script is above itself
pub record IsTypedSet (outline : List ScriptShape) (scripts : List Script) : Type 0 where
  pub functions : (place : BodyPlace) (function : Function) → function_at scripts place ≡ Some function → AllByRecursion (IsTyped (record { outline = outline; scripts = scripts; script = script_of place; function = function })) function.code
  pub above : (script : ℕ) (shape : ScriptShape) → slice_get outline script ≡ Some shape → lineage outline (Some script) ≡ script ∷ lineage outline shape.parent

-- ---- bodies
-- a body that waits for a reply has one of this type stored in the result of its call
abbrev pub StoredBy : Scope → Option CoreType → Option Operand → Type 0
StoredBy scope given None = Unit {0}
StoredBy scope given (Some result) = Stores scope result given

abbrev pub RepliesTo : Scope → Option CoreType → Option Instruction → Type 0
RepliesTo scope given None = Unit {0}
RepliesTo scope given (Some instruction) = StoredBy scope given (reply_result instruction)

abbrev pub Awaits : Scope → Option Instruction → Option (Option CoreType) → Type 0
Awaits scope call None = Unit {0}
Awaits scope call (Some given) = RepliesTo scope given call

pub record Holds (outline : List ScriptShape) (scripts : List Script) (known : Known) (own : Option ℕ) (body : Body) (awaited : Option (Option CoreType)) (result : Option CoreType) : Type 0 where
  pub function : Function
  pub placed : function_at scripts body.place ≡ Some function
  pub on : IsOn outline own (script_of body.place) function.is_global
  pub gives : function.result ≡ result
  pub slots : HaveTypes known (slot_kinds function) body.slots
  pub waits : Awaits (record { outline = outline; scripts = scripts; script = script_of body.place; function = function }) (slice_get function.code body.instruction) awaited

abbrev pub code_types : List ScriptShape → List Script → Types Body
code_types outline scripts =
    record { outline = outline; calls = Calls outline scripts; holds = Holds outline scripts }
