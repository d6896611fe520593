-- What judged code means, by the opcode and the places of operands. Loaded code is made of it and means the same (Coding).
use Rattle.std.specs.Prelude.{ℕ, ◌==◌, ℤ, pos, unsigned_abs, bit_and, nat_le, if◌then◌else◌, List, [], ◌∷◌, length, map, position, Option, Some, None, slice_index_or}
use Rattle.std.specs.Str.{str_eq_ignore_ascii_case}
use Rattle.core_tree.specs.declared.value.Value.TheVariants as values
use Rattle.core_tree.specs.Outlines.{ScriptShape, script_shape}
use Rattle.pex_verify.specs.declared.form.Form.{Form}
use Rattle.pex_verify.specs.declared.form.Form.TheVariants as form
use Rattle.pex_verify.specs.declared.form.FourForm.{FourForm}
use Rattle.pex_verify.specs.declared.form.FourForm.TheVariants as quadruple
use Rattle.pex_verify.specs.declared.form.PlainForm.{PlainForm}
use Rattle.pex_verify.specs.declared.form.PlainForm.TheVariants as plain
use Rattle.pex_verify.specs.declared.form.ThreeForm.{ThreeForm}
use Rattle.pex_verify.specs.declared.form.ThreeForm.TheVariants as triple
use Rattle.pex_verify.specs.declared.form.TwoForm.{TwoForm}
use Rattle.pex_verify.specs.declared.form.TwoForm.TheVariants as pair
use Rattle.pex_verify.specs.declared.judged.JudgedFunction.{JudgedFunction}
use Rattle.pex_verify.specs.declared.judged.JudgedInstruction.{JudgedInstruction}
use Rattle.pex_verify.specs.declared.judged.JudgedProperty.{JudgedProperty}
use Rattle.pex_verify.specs.declared.judged.JudgedScript.{JudgedScript}
use Rattle.pex_verify.specs.declared.judged.JudgedOperand.{JudgedOperand as Loaded}
use Rattle.pex_verify.specs.declared.judged.JudgedOperand.TheVariants as loaded
use Rattle.pex_verify.specs.Sets.{JudgedSet}
use Rattle.code_meaning.specs.Code.{Operand, Literal, Slot, Variable, Itself, StateText, Instruction, Function, Access, Auto, Full, Property, State, Script}
use Rattle.code_meaning.specs.Code as op

-- ---- operands
-- a name has no value
abbrev pub operand_of : Loaded → Operand
operand_of loaded.NoneValue = Literal values.NoneValue
operand_of (loaded.Word name) = Literal values.NoneValue
operand_of (loaded.Quoted text) = Literal (values.Text text)
operand_of (loaded.Int number) = Literal (values.Int number)
operand_of (loaded.Bool truth) = Literal (values.Bool truth)
operand_of (loaded.Slot number) = Slot number
operand_of (loaded.Variable number) = Variable number
operand_of loaded.Instance = Itself
operand_of loaded.State = StateText

abbrev pub name_of : Loaded → List ℕ
name_of (loaded.Word name) = name
name_of _ = []

abbrev pub number_of : Loaded → ℤ
number_of (loaded.Int number) = number
number_of _ = pos 0

-- a number of elements that is a byte, else 0
abbrev pub size_of : ℤ → ℕ
size_of number = if nat_le (unsigned_abs number) 255 then unsigned_abs number else 0

-- the script of this name, with case ignored, or one past the last
abbrev pub script_or : Option ℕ → ℕ → ℕ
script_or None other = other
script_or (Some script) other = script

abbrev pub script_named : List ScriptShape → List ℕ → ℕ
script_named outline name =
    script_or (position (λ script. str_eq_ignore_ascii_case script.name name) outline) (length outline)

-- ---- instructions
-- an instruction with the operands that its opcode always has, and the arguments of a call
pub record Operands : Type 0 where
  pub outline : List ScriptShape
  pub fixed : List Loaded
  pub more : List Loaded

abbrev pub given : List ScriptShape → List Loaded → List Loaded → Operands
given outline fixed more = record { outline = outline; fixed = fixed; more = more }

abbrev pub operand_at : Operands → ℕ → Loaded
operand_at operands place = slice_index_or operands.fixed place loaded.NoneValue

abbrev pub at : Operands → ℕ → Operand
at operands place = operand_of (operand_at operands place)

abbrev pub name_at : Operands → ℕ → List ℕ
name_at operands place = name_of (operand_at operands place)

abbrev pub number_at : Operands → ℕ → ℤ
number_at operands place = number_of (operand_at operands place)

abbrev pub arguments : Operands → List Operand
arguments operands = map operand_of operands.more

abbrev pub two : (Operand → Operand → Instruction) → Operands → Instruction
two form operands = form (at operands 0) (at operands 1)

abbrev pub three : (Operand → Operand → Operand → Instruction) → Operands → Instruction
three form operands = form (at operands 0) (at operands 1) (at operands 2)

abbrev pub four : (Operand → Operand → Operand → Operand → Instruction) → Operands → Instruction
four form operands = form (at operands 0) (at operands 1) (at operands 2) (at operands 3)

abbrev pub by_two : TwoForm → Operand → Operand → Instruction
by_two pair.Not = op.Not
by_two pair.INeg = op.INeg
by_two pair.Assign = op.Assign
by_two pair.Cast = op.Cast
by_two pair.ArrayLength = op.ArrayLength

abbrev pub by_three : ThreeForm → Operand → Operand → Operand → Instruction
by_three triple.IAdd = op.IAdd
by_three triple.ISub = op.ISub
by_three triple.IMul = op.IMul
by_three triple.IDiv = op.IDiv
by_three triple.IMod = op.IMod
by_three triple.CmpEq = op.CmpEq
by_three triple.CmpLt = op.CmpLt
by_three triple.CmpLe = op.CmpLe
by_three triple.CmpGt = op.CmpGt
by_three triple.CmpGe = op.CmpGe
by_three triple.StrCat = op.StrCat
by_three triple.ArrayGetElement = op.ArrayGetElement
by_three triple.ArraySetElement = op.ArraySetElement

abbrev pub by_four : FourForm → Operand → Operand → Operand → Operand → Instruction
by_four quadruple.ArrayFindElement = op.ArrayFindElement
by_four quadruple.ArrayRFindElement = op.ArrayRFindElement

-- nop. It also stands at the opcodes of floats, which no accepted file has
abbrev pub none : Operands → Instruction
none operands = op.Nop

abbrev pub by_plain : PlainForm → Operands → Instruction
by_plain plain.Nop = none
by_plain (plain.Two kind) = two (by_two kind)
by_plain (plain.Three kind) = three (by_three kind)
by_plain (plain.Four kind) = four (by_four kind)
by_plain plain.Jmp = λ i. op.Jmp (number_at i 0)
by_plain plain.JmpT = λ i. op.JmpT (at i 0) (number_at i 1)
by_plain plain.JmpF = λ i. op.JmpF (at i 0) (number_at i 1)
by_plain plain.Return = λ i. op.Return (at i 0)
by_plain plain.ArrayCreate = λ i. op.ArrayCreate (at i 0) (size_of (number_at i 1))

abbrev pub by_form : Form → Operands → Instruction
by_form (form.Plain kind) = by_plain kind
by_form form.CallMethod = λ i. op.CallMethod (name_at i 0) (at i 1) (at i 2) (arguments i)
by_form form.CallParent = λ i. op.CallParent (name_at i 0) (at i 1) (arguments i)
by_form form.CallStatic =
    λ i. op.CallStatic (script_named i.outline (name_at i 0)) (name_at i 1) (at i 2) (arguments i)
by_form form.PropGet = λ i. op.PropGet (name_at i 0) (at i 1) (at i 2)
by_form form.PropSet = λ i. op.PropSet (name_at i 0) (at i 1) (at i 2)

abbrev pub two_form : TwoForm → Form
two_form kind = form.Plain (plain.Two kind)

abbrev pub three_form : ThreeForm → Form
three_form kind = form.Plain (plain.Three kind)

abbrev pub four_form : FourForm → Form
four_form kind = form.Plain (plain.Four kind)

-- by the opcode
abbrev pub form_table : List Form
form_table =
    form.Plain plain.Nop ∷ three_form triple.IAdd ∷ form.Plain plain.Nop ∷ three_form triple.ISub
    ∷ form.Plain plain.Nop ∷ three_form triple.IMul ∷ form.Plain plain.Nop ∷ three_form triple.IDiv
    ∷ form.Plain plain.Nop ∷ three_form triple.IMod ∷ two_form pair.Not ∷ two_form pair.INeg ∷ form.Plain plain.Nop
    ∷ two_form pair.Assign ∷ two_form pair.Cast ∷ three_form triple.CmpEq ∷ three_form triple.CmpLt
    ∷ three_form triple.CmpLe ∷ three_form triple.CmpGt ∷ three_form triple.CmpGe ∷ form.Plain plain.Jmp
    ∷ form.Plain plain.JmpT ∷ form.Plain plain.JmpF ∷ form.CallMethod ∷ form.CallParent ∷ form.CallStatic
    ∷ form.Plain plain.Return ∷ three_form triple.StrCat ∷ form.PropGet ∷ form.PropSet ∷ form.Plain plain.ArrayCreate
    ∷ two_form pair.ArrayLength ∷ three_form triple.ArrayGetElement ∷ three_form triple.ArraySetElement
    ∷ four_form quadruple.ArrayFindElement ∷ four_form quadruple.ArrayRFindElement ∷ []

abbrev pub form_at : ℕ → Form
form_at opcode = slice_index_or form_table opcode (form.Plain plain.Nop)

abbrev pub instruction_by : ℕ → Operands → Instruction
instruction_by opcode operands = by_form (form_at opcode) operands

abbrev pub instruction_of : List ScriptShape → JudgedInstruction → Instruction
instruction_of outline instruction =
    instruction_by instruction.opcode (given outline instruction.fixed.items instruction.more.items)

-- ---- members
abbrev pub function_of : List ScriptShape → JudgedFunction → Function
function_of outline function =
    record { name = function.name; parameters = map (λ parameter. parameter.1) function.parameters.items; locals = map (λ local. local.1) function.locals.items; result = function.result; is_global = function.is_global; is_native = function.is_native; code = map (instruction_of outline) function.code.items; lines = function.lines.items }

abbrev pub function_where : List ScriptShape → Option JudgedFunction → Option Function
function_where outline None = None
function_where outline (Some function) = Some (function_of outline function)

-- bit 1 is read and bit 2 is write
abbrev pub access_of : List ScriptShape → JudgedProperty → Option ℕ → Access
access_of outline property (Some variable) =
    Auto variable (bit_and property.bits 1 == 1) (bit_and property.bits 2 == 2)
access_of outline property None = Full (function_where outline property.read) (function_where outline property.write)

abbrev pub property_of : List ScriptShape → JudgedProperty → Property
property_of outline property = record { name = property.name; access = access_of outline property property.variable }

abbrev pub script_of : List ScriptShape → JudgedScript → Script
script_of outline script =
    record { properties = map (property_of outline) script.properties.items; states = map (λ state. record { name = state.0; functions = map (function_of outline) state.1.items }) script.states.items }

-- ---- sets
abbrev pub outline_of : JudgedSet → List ScriptShape
outline_of set = map script_shape set.outline

-- the scripts of a set, by number
abbrev pub scripts_of : JudgedSet → List Script
scripts_of set = map (script_of (outline_of set)) set.scripts
