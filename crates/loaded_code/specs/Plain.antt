-- Loaded code without where it lies in memory, and without the numbers of names, places and landings that were looked up
-- in advance: what its code means.
use Rattle.std.specs.Prelude.{ℕ, ◌==◌, bit_and, List, map, Option, Some, None}
use Rattle.core_tree.specs.declared.value.Value.TheVariants as values
use Rattle.loaded_code.specs.declared.instruction.LoadedInstruction.{LoadedInstruction}
use Rattle.loaded_code.specs.declared.instruction.LoadedInstruction.TheVariants as loaded
use Rattle.loaded_code.specs.declared.operand.Operand.{Operand as Loaded}
use Rattle.loaded_code.specs.declared.operand.Operand.TheVariants as operands
use Rattle.loaded_code.specs.declared.script.LoadedFunction.{LoadedFunction}
use Rattle.loaded_code.specs.declared.script.LoadedProperty.{LoadedProperty}
use Rattle.loaded_code.specs.declared.script.LoadedScript.{LoadedScript}
use Rattle.code_meaning.specs.Code.{Operand, Literal, Slot, Variable, Itself, StateText, Instruction, Function, Access, Auto, Full, Property, State, Script}
use Rattle.code_meaning.specs.Code as op

abbrev pub operand_of : Loaded → Operand
operand_of operands.NoneValue = Literal values.NoneValue
operand_of (operands.Quoted text) = Literal (values.Text text)
operand_of (operands.Int number) = Literal (values.Int number)
operand_of (operands.Bool truth) = Literal (values.Bool truth)
operand_of (operands.Slot number) = Slot number
operand_of (operands.Variable number) = Variable number
operand_of operands.Instance = Itself
operand_of operands.State = StateText

abbrev pub instruction_of : LoadedInstruction → Instruction
instruction_of loaded.Nop = op.Nop
instruction_of (loaded.IAdd result left right) = op.IAdd (operand_of result) (operand_of left) (operand_of right)
instruction_of (loaded.ISub result left right) = op.ISub (operand_of result) (operand_of left) (operand_of right)
instruction_of (loaded.IMul result left right) = op.IMul (operand_of result) (operand_of left) (operand_of right)
instruction_of (loaded.IDiv result left right) = op.IDiv (operand_of result) (operand_of left) (operand_of right)
instruction_of (loaded.IMod result left right) = op.IMod (operand_of result) (operand_of left) (operand_of right)
instruction_of (loaded.Not result value) = op.Not (operand_of result) (operand_of value)
instruction_of (loaded.INeg result value) = op.INeg (operand_of result) (operand_of value)
instruction_of (loaded.Assign result value) = op.Assign (operand_of result) (operand_of value)
instruction_of (loaded.Cast result value) = op.Cast (operand_of result) (operand_of value)
instruction_of (loaded.CmpEq result left right) = op.CmpEq (operand_of result) (operand_of left) (operand_of right)
instruction_of (loaded.CmpLt result left right) = op.CmpLt (operand_of result) (operand_of left) (operand_of right)
instruction_of (loaded.CmpLe result left right) = op.CmpLe (operand_of result) (operand_of left) (operand_of right)
instruction_of (loaded.CmpGt result left right) = op.CmpGt (operand_of result) (operand_of left) (operand_of right)
instruction_of (loaded.CmpGe result left right) = op.CmpGe (operand_of result) (operand_of left) (operand_of right)
instruction_of (loaded.Jmp offset landing) = op.Jmp offset
instruction_of (loaded.JmpT condition offset landing) = op.JmpT (operand_of condition) offset
instruction_of (loaded.JmpF condition offset landing) = op.JmpF (operand_of condition) offset
instruction_of (loaded.CallMethod name number object result arguments) =
    op.CallMethod name (operand_of object) (operand_of result) (map operand_of arguments.items)
instruction_of (loaded.CallParent name number result arguments) =
    op.CallParent name (operand_of result) (map operand_of arguments.items)
instruction_of (loaded.CallStatic script name function result arguments) =
    op.CallStatic script name (operand_of result) (map operand_of arguments.items)
instruction_of (loaded.Return value) = op.Return (operand_of value)
instruction_of (loaded.StrCat result left right) = op.StrCat (operand_of result) (operand_of left) (operand_of right)
instruction_of (loaded.PropGet name number object result) = op.PropGet name (operand_of object) (operand_of result)
instruction_of (loaded.PropSet name number object value) = op.PropSet name (operand_of object) (operand_of value)
instruction_of (loaded.ArrayCreate result size) = op.ArrayCreate (operand_of result) size
instruction_of (loaded.ArrayLength result array) = op.ArrayLength (operand_of result) (operand_of array)
instruction_of (loaded.ArrayGetElement result array index) =
    op.ArrayGetElement (operand_of result) (operand_of array) (operand_of index)
instruction_of (loaded.ArraySetElement array index value) =
    op.ArraySetElement (operand_of array) (operand_of index) (operand_of value)
instruction_of (loaded.ArrayFindElement array result value start) =
    op.ArrayFindElement (operand_of array) (operand_of result) (operand_of value) (operand_of start)
instruction_of (loaded.ArrayRFindElement array result value start) =
    op.ArrayRFindElement (operand_of array) (operand_of result) (operand_of value) (operand_of start)

-- ---- members
abbrev pub function_of : LoadedFunction → Function
function_of function =
    record { name = function.name; parameters = map (λ parameter. parameter.1) function.parameters.items; locals = map (λ local. local.1) function.locals.items; result = function.result; is_global = function.is_global; is_native = function.is_native; code = map instruction_of function.code.items; lines = function.lines.items }

abbrev pub function_where : Option LoadedFunction → Option Function
function_where None = None
function_where (Some function) = Some (function_of function)

-- bit 1 is read and bit 2 is write
abbrev pub access_of : LoadedProperty → Option ℕ → Access
access_of property (Some variable) = Auto variable (bit_and property.bits 1 == 1) (bit_and property.bits 2 == 2)
access_of property None = Full (function_where property.read) (function_where property.write)

abbrev pub property_of : LoadedProperty → Property
property_of property = record { name = property.name; access = access_of property property.variable }

abbrev pub script_of : LoadedScript → Script
script_of script =
    record { properties = map property_of script.properties.items; states = map (λ state. record { name = state.0; functions = map function_of state.1.items }) script.states.items }
