-- What holds of the functions and scripts of accepted files.
use Rattle.std.specs.Prelude.{◌≡◌, ℕ, ◌+◌, ◌<◌, ◌≤◌, pos, ◌+ℤ◌, ◌≤ℤ◌, List, length, vec_len, All, Bool, true, false, IsTrue, Option, Some, None, IfSome, slice_get, slice_index_or}
use Rattle.core_tree.specs.declared.outline.OutlineFunction.{OutlineFunction}
use Rattle.core_tree.specs.declared.outline.OutlineProperty.{OutlineProperty}
use Rattle.core_tree.specs.declared.outline.OutlineScript.{OutlineScript}
use Rattle.core_tree.specs.declared.outline.OutlineVariable.{OutlineVariable}
use Rattle.pex_verify.specs.declared.action.Action.{Action}
use Rattle.pex_verify.specs.declared.action.Action.TheVariants as action
use Rattle.pex_verify.specs.declared.action.Use.{Use}
use Rattle.pex_verify.specs.declared.action.Use.TheVariants as purpose
use Rattle.pex_verify.specs.declared.judged.JudgedOperand.{JudgedOperand as Operand}
use Rattle.pex_verify.specs.declared.judged.JudgedOperand.TheVariants.{NoneValue, Word, Int, Slot, Variable}
use Rattle.pex_verify.specs.declared.judged.JudgedInstruction.{JudgedInstruction}
use Rattle.pex_verify.specs.declared.judged.JudgedFunction.{JudgedFunction}
use Rattle.pex_verify.specs.declared.judged.JudgedProperty.{JudgedProperty}
use Rattle.pex_verify.specs.declared.judged.JudgedScript.{JudgedScript}
use Rattle.pex_verify.specs.Types.{IsTypeAmong}
use Rattle.pex_verify.specs.Uses.{action_of, uses_by, use_at}

-- how many scripts a set has, and how many variables one of them has
pub record Bounds : Type 0 where
  pub scripts : ℕ
  pub variables : ℕ

abbrev pub bounds_with : ℕ → ℕ → Bounds
bounds_with scripts variables = record { scripts = scripts; variables = variables }

-- a parameter or local is one of so many, and a variable one of so many
abbrev pub IsWithin : ℕ → ℕ → Operand → Type 0
IsWithin slots variables (Slot n) = n < slots
IsWithin slots variables (Variable n) = n < variables
IsWithin slots variables _ = Unit {0}

-- whether an operand is read or written
abbrev pub is_value : Use → Bool
is_value purpose.Read = true
is_value purpose.Write = true
is_value purpose.Name = false
is_value purpose.Number = false

-- it is no name that stands for itself: a literal, a parameter, a local, a variable, `self` or `::State`
abbrev pub IsNoName : Operand → Type 0
IsNoName (Word name) = ⊥
IsNoName _ = Unit {0}

-- what an identifier that is read or written means
pub record IsIdentifier (slots variables : ℕ) (operand : Operand) : Type 0 where
  pub within : IsWithin slots variables operand
  pub no_name : IsNoName operand

-- an operand that is read or written has a value, and its numbers are in range
pub record IsResolved (slots variables : ℕ) (usage : Use) (operand : Operand) : Type 0 where
  pub within : IsWithin slots variables operand
  pub meant : IsTrue (is_value usage) → IsNoName operand

abbrev pub AreResolved : ℕ → ℕ → List Use → List Operand → Type 0
AreResolved slots variables uses operands =
    (k : ℕ) (d : Operand) → k < length operands → IsResolved slots variables (use_at uses k) (slice_index_or operands k d)

-- a jump by this operand, from this place of so many, leads to a place of the code or to its end
abbrev pub LeadsBy : ℕ → ℕ → Option Operand → Option ℕ → Type 0
LeadsBy place count (Some (Int offset)) (Some landing) = (pos landing ≡ pos place +ℤ offset) × (landing ≤ count)
LeadsBy place count _ _ = ⊥

-- where an instruction leads, if it is a jump
abbrev pub Leads : Option Action → ℕ → ℕ → List Operand → Option ℕ → Type 0
Leads (Some action.Jump) place count fixed landing = LeadsBy place count (slice_get fixed 0) landing
Leads (Some action.JumpIf) place count fixed landing = LeadsBy place count (slice_get fixed 1) landing
Leads _ place count fixed landing = landing ≡ None

-- a number of elements that stands in the code
abbrev pub IsSize : Operand → Type 0
IsSize (Int number) = (pos 1 ≤ℤ number) × (number ≤ℤ pos 128)
IsSize _ = ⊥

-- how many elements an instruction makes, if it makes an array
abbrev pub HasSize : Option Action → List Operand → Type 0
HasSize (Some action.CreateArray) fixed = IsSize (slice_index_or fixed 1 NoneValue)
HasSize _ fixed = Unit {0}

-- the instruction at a place of so many, in a function with so many parameters and locals of a script with these bounds
pub record IsSoundInstruction (bounds : Bounds) (slots count place : ℕ) (i : JudgedInstruction) : Type 0 where
  pub fixed : AreResolved slots bounds.variables (uses_by (action_of i.opcode)) i.fixed.items
  pub more : All (IsResolved slots bounds.variables purpose.Read) i.more.items
  pub jump : Leads (action_of i.opcode) place count i.fixed.items i.jump
  pub size : HasSize (action_of i.opcode) i.fixed.items
  pub function : IfSome i.function (λ f. f.script < bounds.scripts)

-- each of these first instructions of a function with so many in all
abbrev pub AreSoundInstructions : Bounds → ℕ → ℕ → List JudgedInstruction → Type 0
AreSoundInstructions bounds slots count code =
    (k : ℕ) (d : JudgedInstruction) → k < length code → IsSoundInstruction bounds slots count k (slice_index_or code k d)

abbrev pub slot_count : JudgedFunction → ℕ
slot_count f = vec_len f.parameters + vec_len f.locals

-- a function of a script with these bounds
pub record IsSoundFunction (bounds : Bounds) (f : JudgedFunction) : Type 0 where
  pub answer : IfSome f.result (IsTypeAmong bounds.scripts)
  pub parameters : All (λ p. IsTypeAmong bounds.scripts p.1) f.parameters.items
  pub locals : All (λ l. IfSome l.1 (IsTypeAmong bounds.scripts)) f.locals.items
  pub lines : vec_len f.lines ≡ vec_len f.code
  pub code : AreSoundInstructions bounds (slot_count f) (vec_len f.code) f.code.items

pub record IsSoundProperty (bounds : Bounds) (p : JudgedProperty) : Type 0 where
  pub kind : IsTypeAmong bounds.scripts p.kind
  pub variable : IfSome p.variable (λ n. n < bounds.variables)
  pub read : IfSome p.read (IsSoundFunction bounds)
  pub write : IfSome p.write (IsSoundFunction bounds)

abbrev pub AreSoundFunctions : Bounds → List JudgedFunction → Type 0
AreSoundFunctions bounds functions = All (IsSoundFunction bounds) functions

-- the functions of a state
pub record IsSoundState (bounds : Bounds) (functions : List JudgedFunction) : Type 0 where
  pub each : AreSoundFunctions bounds functions

pub record IsSoundScript (bounds : Bounds) (s : JudgedScript) : Type 0 where
  pub properties : All (IsSoundProperty bounds) s.properties.items
  pub states : All (λ state. IsSoundState bounds state.1.items) s.states.items

-- ---- outlines

-- the types of variables in a set of so many scripts
abbrev pub AreTyped : ℕ → List OutlineVariable → Type 0
AreTyped count variables = All (λ (v : OutlineVariable). IsTypeAmong count v.kind) variables

pub record IsOutlineProperty (bounds : Bounds) (p : OutlineProperty) : Type 0 where
  pub kind : IsTypeAmong bounds.scripts p.kind
  pub variable : p.variable < bounds.variables

pub record IsOutlineFunction (count : ℕ) (f : OutlineFunction) : Type 0 where
  pub parameters : All (IsTypeAmong count) f.parameters.items
  pub answer : IfSome f.result (IsTypeAmong count)

-- the numbers of a script's outline in a set of so many scripts
pub record IsSoundOutline (count : ℕ) (o : OutlineScript) : Type 0 where
  pub parent : IfSome o.parent (λ n. n < count)
  pub variables : AreTyped count o.variables.items
  pub properties : All (IsOutlineProperty (bounds_with count (vec_len o.variables))) o.properties.items
  pub functions : All (IsOutlineFunction count) o.functions.items
