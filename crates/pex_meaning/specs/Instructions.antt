-- What instructions mean: operands that are read or written, names and numbers, and the form of each opcode.
use Rattle.std.specs.Prelude.{ℕ, ◌==◌, ℤ, pos, unsigned_abs, Bool, not, if◌then◌else◌, List, [], ◌∷◌, map, find, Option, None, Some, option_map, unwrap_or, slice_index_or, codes}
use Rattle.std.specs.Option.{option_or}
use Rattle.core_tree.specs.declared.value.Value.TheVariants as values
use Rattle.pex_values.specs.declared.values.Datum.{Datum}
use Rattle.pex_values.specs.declared.values.Datum.TheVariants as datum
use Rattle.pex_values.specs.Plain.{PlainInstruction}
use Rattle.code_meaning.specs.Code.{Operand, Literal, Slot, Variable, Itself, StateText, Instruction}
use Rattle.code_meaning.specs.Code as op
use Rattle.pex_meaning.specs.Names.{string_at, are_same, first_named}

-- what the code of a function can name: by its references the strings, and then the scripts of the set, its own
-- parameters with the locals behind them, and the variables of its object
pub record Scope : Type 0 where
  pub strings : List (List ℕ)
  pub scripts : List (List ℕ)
  pub slots : List (List ℕ)
  pub variables : List (List ℕ)
  pub is_global : Bool

-- ---- operands
-- what belongs to the instance: a variable, and where none is called so, `self` or `::State`
abbrev pub of_instance : Scope → List ℕ → Option Operand
of_instance scope name =
    option_or (option_map (λ number. Variable number) (first_named name scope.variables))
    (if are_same name (codes "self") then Some Itself else if are_same name (codes "::State") then Some StateText else None)

-- a parameter or a local before all else. A Global function has no instance
abbrev pub identified : Scope → List ℕ → Option Operand
identified scope name =
    option_or (option_map (λ number. Slot number) (first_named name scope.slots))
    (if scope.is_global then None else of_instance scope name)

-- an operand that is read or written. In a verified set each identifier is found, and there is no float
abbrev pub operand_meant : Scope → Datum → Operand
operand_meant scope (datum.Word reference) =
    unwrap_or (identified scope (string_at scope.strings reference)) (Literal values.NoneValue)
operand_meant scope (datum.Quoted reference) = Literal (values.Text (string_at scope.strings reference))
operand_meant scope (datum.Int number) = Literal (values.Int number)
operand_meant scope (datum.Bool byte) = Literal (values.Bool (not (byte == 0)))
operand_meant scope _ = Literal values.NoneValue

-- an identifier that stands for itself
abbrev pub name_meant : Scope → Datum → List ℕ
name_meant scope (datum.Word reference) = string_at scope.strings reference
name_meant scope _ = []

-- an offset, or the size of an array
abbrev pub number_meant : Datum → ℤ
number_meant (datum.Int number) = number
number_meant _ = pos 0

-- ---- operands by their places
-- the operands that an opcode always has, and the arguments of a call
pub record Operands : Type 0 where
  pub scope : Scope
  pub fixed : List Datum
  pub more : List Datum

abbrev pub datum_at : Operands → ℕ → Datum
datum_at operands place = slice_index_or operands.fixed place datum.NoneValue

abbrev pub at : Operands → ℕ → Operand
at operands place = operand_meant operands.scope (datum_at operands place)

abbrev pub name_at : Operands → ℕ → List ℕ
name_at operands place = name_meant operands.scope (datum_at operands place)

abbrev pub number_at : Operands → ℕ → ℤ
number_at operands place = number_meant (datum_at operands place)

-- the number of the script of a name
abbrev pub script_at : Operands → ℕ → ℕ
script_at operands place = unwrap_or (first_named (name_at operands place) operands.scope.scripts) 0

abbrev pub arguments : Operands → List Operand
arguments operands = map (operand_meant operands.scope) operands.more

-- ---- opcodes
abbrev pub two : (Operand → Operand → Instruction) → Operands → Instruction
two form operands = form (at operands 0) (at operands 1)

abbrev pub three : (Operand → Operand → Operand → Instruction) → Operands → Instruction
three form operands = form (at operands 0) (at operands 1) (at operands 2)

abbrev pub four : (Operand → Operand → Operand → Operand → Instruction) → Operands → Instruction
four form operands = form (at operands 0) (at operands 1) (at operands 2) (at operands 3)

-- the form of each opcode. Those of floats, 02, 04, 06, 08 and 0C, stand in no verified set
abbrev pub forms : List (ℕ × (Operands → Instruction))
forms =
    (0x00, λ i. op.Nop)
    ∷ (0x01, three op.IAdd) ∷ (0x03, three op.ISub) ∷ (0x05, three op.IMul) ∷ (0x07, three op.IDiv) ∷ (0x09, three op.IMod)
    ∷ (0x0A, two op.Not) ∷ (0x0B, two op.INeg) ∷ (0x0D, two op.Assign) ∷ (0x0E, two op.Cast)
    ∷ (0x0F, three op.CmpEq)
    ∷ (0x10, three op.CmpLt) ∷ (0x11, three op.CmpLe) ∷ (0x12, three op.CmpGt) ∷ (0x13, three op.CmpGe)
    ∷ (0x14, λ i. op.Jmp (number_at i 0))
    ∷ (0x15, λ i. op.JmpT (at i 0) (number_at i 1))
    ∷ (0x16, λ i. op.JmpF (at i 0) (number_at i 1))
    ∷ (0x17, λ i. op.CallMethod (name_at i 0) (at i 1) (at i 2) (arguments i))
    ∷ (0x18, λ i. op.CallParent (name_at i 0) (at i 1) (arguments i))
    ∷ (0x19, λ i. op.CallStatic (script_at i 0) (name_at i 1) (at i 2) (arguments i))
    ∷ (0x1A, λ i. op.Return (at i 0))
    ∷ (0x1B, three op.StrCat)
    ∷ (0x1C, λ i. op.PropGet (name_at i 0) (at i 1) (at i 2))
    ∷ (0x1D, λ i. op.PropSet (name_at i 0) (at i 1) (at i 2))
    ∷ (0x1E, λ i. op.ArrayCreate (at i 0) (unsigned_abs (number_at i 1)))
    ∷ (0x1F, two op.ArrayLength) ∷ (0x20, three op.ArrayGetElement) ∷ (0x21, three op.ArraySetElement)
    ∷ (0x22, four op.ArrayFindElement) ∷ (0x23, four op.ArrayRFindElement) ∷ []

abbrev pub form_of : ℕ → Operands → Instruction
form_of opcode = unwrap_or (option_map (λ form. form.1) (find (λ form. form.0 == opcode) forms)) (λ i. op.Nop)

abbrev pub instruction_meant : Scope → PlainInstruction → Instruction
instruction_meant scope instruction =
    form_of instruction.opcode (record { scope = scope; fixed = instruction.fixed; more = instruction.more })
