-- Loaded scripts as plain data: the members and the code of files that keep the rules, where each
-- identifier that is read or written stands as what it means.
use Rattle.std.specs.Prelude.{ℕ, Bool, ℤ, List, Option}
use Rattle.core_tree.specs.declared.core_type.CoreType.{CoreType}
use Rattle.core_tree.specs.declared.value.Value.{Value}

pub data Operand : Type 0 where
  Literal : (value : Value) → Operand
  -- a parameter or a local: its number among the parameters and the locals behind them
  Slot : (number : ℕ) → Operand
  -- a variable of the script in which the code stands
  Variable : (number : ℕ) → Operand
  -- `self`
  Itself : Operand
  -- `::State`
  StateText : Operand

-- an instruction of each opcode, in the order of the opcodes, with its operands in the order of the file.
-- `more` are the arguments of a call
pub data Instruction : Type 0 where
  -- 00
  Nop : Instruction
  -- 01, 03, 05, 07, 09
  IAdd : (result left right : Operand) → Instruction
  ISub : (result left right : Operand) → Instruction
  IMul : (result left right : Operand) → Instruction
  IDiv : (result left right : Operand) → Instruction
  IMod : (result left right : Operand) → Instruction
  -- 0A, 0B
  Not : (result value : Operand) → Instruction
  INeg : (result value : Operand) → Instruction
  -- 0D, 0E
  Assign : (result value : Operand) → Instruction
  Cast : (result value : Operand) → Instruction
  -- 0F, 10, 11, 12, 13
  CmpEq : (result left right : Operand) → Instruction
  CmpLt : (result left right : Operand) → Instruction
  CmpLe : (result left right : Operand) → Instruction
  CmpGt : (result left right : Operand) → Instruction
  CmpGe : (result left right : Operand) → Instruction
  -- 14, 15, 16. An offset counts from the jump itself
  Jmp : (offset : ℤ) → Instruction
  JmpT : (condition : Operand) (offset : ℤ) → Instruction
  JmpF : (condition : Operand) (offset : ℤ) → Instruction
  -- 17, 18, 19. A callstatic names a script by its number
  CallMethod : (name : List ℕ) (object result : Operand) (more : List Operand) → Instruction
  CallParent : (name : List ℕ) (result : Operand) (more : List Operand) → Instruction
  CallStatic : (script : ℕ) (name : List ℕ) (result : Operand) (more : List Operand) → Instruction
  -- 1A
  Return : (value : Operand) → Instruction
  -- 1B
  StrCat : (result left right : Operand) → Instruction
  -- 1C, 1D
  PropGet : (name : List ℕ) (object result : Operand) → Instruction
  PropSet : (name : List ℕ) (object value : Operand) → Instruction
  -- 1E, 1F, 20, 21
  ArrayCreate : (result : Operand) (size : ℕ) → Instruction
  ArrayLength : (result array : Operand) → Instruction
  ArrayGetElement : (result array index : Operand) → Instruction
  ArraySetElement : (array index value : Operand) → Instruction
  -- 22, 23
  ArrayFindElement : (array result value start : Operand) → Instruction
  ArrayRFindElement : (array result value start : Operand) → Instruction

-- a function of a state, or one that reads or writes a property and has the property's name
pub record Function : Type 0 where
  pub name : List ℕ
  pub parameters : List CoreType
  -- a local of type None has no type here
  pub locals : List (Option CoreType)
  pub result : Option CoreType
  pub is_global : Bool
  pub is_native : Bool
  pub code : List Instruction
  -- the source line of each instruction, 0 where the file tells none
  pub lines : List ℕ

-- how a property is read and written: by a variable, in the directions that the file allows, or by its
-- functions
pub data Access : Type 0 where
  Auto : (variable : ℕ) (is_read is_written : Bool) → Access
  Full : (read write : Option Function) → Access

pub record Property : Type 0 where
  pub name : List ℕ
  pub access : Access

pub record State : Type 0 where
  pub name : List ℕ
  pub functions : List Function

-- one state, at any place, has the empty name
pub record Script : Type 0 where
  pub properties : List Property
  pub states : List State
