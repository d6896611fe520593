-- Which values are well shaped: the numbers have the ranges of their types, the references are places in the
-- string table, the operands are those of the opcode, and a property has the parts that its bits ask for.
use Rattle.std.specs.Prelude.{◌≡◌, ℕ, ◌<◌, ◌^◌, ◌⊎◌, Bool, true, false, length, Option, Some, None, is_some, IfSome, FitsSigned}
use Rattle.std.specs.List.{AllByRecursion}
use Rattle.std.specs.Int.{w32}
use Rattle.pex_values.specs.declared.values.Datum.{Datum}
use Rattle.pex_values.specs.declared.values.Datum.TheVariants.{NoneValue, Word, Quoted, Int, Float, Bool as BoolByte}
use Rattle.pex_values.specs.declared.values.PexVariable.{PexVariable}
use Rattle.pex_values.specs.Bits.{has_variable, has_read, has_write}
use Rattle.pex_values.specs.Opcodes.{operands_of}
use Rattle.pex_values.specs.Plain.{PlainInstruction, PlainFunction, PlainState, PlainProperty, PlainObject, PlainLines, PlainDebug, PlainPex}

-- a place in a table of so many strings, which a field of two bytes can hold
pub record IsReference (strings n : ℕ) : Type 0 where
  pub below : n < strings
  pub fits : n < 2 ^ 16

-- two references, as of a name and a type
pub record ArePair (strings : ℕ) (pair : ℕ × ℕ) : Type 0 where
  pub name : IsReference strings pair.0
  pub kind : IsReference strings pair.1

abbrev pub IsShapedDatum : ℕ → Datum → Type 0
IsShapedDatum strings NoneValue = Unit {0}
IsShapedDatum strings (Word n) = IsReference strings n
IsShapedDatum strings (Quoted n) = IsReference strings n
IsShapedDatum strings (Int n) = FitsSigned w32 n
IsShapedDatum strings (Float n) = n < 2 ^ 32
IsShapedDatum strings (BoolByte n) = n < 2 ^ 8

-- so many operands are fixed, and others stand only where more may follow
abbrev pub AgreesWith : Option (ℕ × Bool) → ℕ → ℕ → Type 0
AgreesWith None fixed more = ⊥
AgreesWith (Some (n, true)) fixed more = fixed ≡ n
AgreesWith (Some (n, false)) fixed more = (fixed ≡ n) × (more ≡ 0)

pub record IsShapedInstruction (strings : ℕ) (i : PlainInstruction) : Type 0 where
  pub opcode : i.opcode < 2 ^ 8
  pub operands : AgreesWith (operands_of i.opcode) (length i.fixed) (length i.more)
  pub fixed : AllByRecursion (IsShapedDatum strings) i.fixed
  pub more : AllByRecursion (IsShapedDatum strings) i.more

pub record IsShapedFunction (strings : ℕ) (f : PlainFunction) : Type 0 where
  pub result : IsReference strings f.result
  pub doc : IsReference strings f.doc
  pub flags : f.flags < 2 ^ 32
  pub bits : f.bits < 2 ^ 8
  pub parameters : AllByRecursion (ArePair strings) f.parameters
  pub locals : AllByRecursion (ArePair strings) f.locals
  pub code : AllByRecursion (IsShapedInstruction strings) f.code

pub record IsShapedNamed (strings : ℕ) (f : ℕ × PlainFunction) : Type 0 where
  pub name : IsReference strings f.0
  pub function : IsShapedFunction strings f.1

pub record IsShapedState (strings : ℕ) (s : PlainState) : Type 0 where
  pub name : IsReference strings s.name
  pub functions : AllByRecursion (IsShapedNamed strings) s.functions

pub record IsShapedVariable (strings : ℕ) (v : PexVariable) : Type 0 where
  pub name : IsReference strings v.name
  pub kind : IsReference strings v.kind
  pub flags : v.flags < 2 ^ 32
  pub value : IsShapedDatum strings v.value

pub record IsShapedProperty (strings : ℕ) (p : PlainProperty) : Type 0 where
  pub name : IsReference strings p.name
  pub kind : IsReference strings p.kind
  pub doc : IsReference strings p.doc
  pub flags : p.flags < 2 ^ 32
  pub bits : p.bits < 2 ^ 8
  pub has_variable : is_some p.variable ≡ has_variable p.bits
  pub has_read : is_some p.read ≡ has_read p.bits
  pub has_write : is_some p.write ≡ has_write p.bits
  pub variable : IfSome p.variable (IsReference strings)
  pub read : IfSome p.read (IsShapedFunction strings)
  pub write : IfSome p.write (IsShapedFunction strings)

pub record IsShapedObject (strings : ℕ) (o : PlainObject) : Type 0 where
  pub name : IsReference strings o.name
  pub parent : IsReference strings o.parent
  pub doc : IsReference strings o.doc
  pub flags : o.flags < 2 ^ 32
  pub auto_state : IsReference strings o.auto_state
  pub variables : AllByRecursion (IsShapedVariable strings) o.variables
  pub properties : AllByRecursion (IsShapedProperty strings) o.properties
  pub states : AllByRecursion (IsShapedState strings) o.states

pub record IsShapedLines (strings : ℕ) (e : PlainLines) : Type 0 where
  pub object : IsReference strings e.object
  pub state : IsReference strings e.state
  pub function : IsReference strings e.function
  pub kind : e.kind < 2 ^ 8
  pub lines : AllByRecursion (λ n. n < 2 ^ 16) e.lines

pub record IsShapedDebug (strings : ℕ) (d : PlainDebug) : Type 0 where
  pub time : d.time < 2 ^ 64
  pub functions : AllByRecursion (IsShapedLines strings) d.functions

-- a reference to a flag's name, and the number of its bit
pub record IsShapedFlag (strings : ℕ) (flag : ℕ × ℕ) : Type 0 where
  pub name : IsReference strings flag.0
  pub index : flag.1 < 2 ^ 8

pub record IsWellShaped (v : PlainPex) : Type 0 where
  pub minor : (v.minor ≡ 1) ⊎ (v.minor ≡ 2)
  pub time : v.time < 2 ^ 64
  pub debug : IfSome v.debug (IsShapedDebug (length v.strings))
  pub user_flags : AllByRecursion (IsShapedFlag (length v.strings)) v.user_flags
  pub objects : AllByRecursion (IsShapedObject (length v.strings)) v.objects
