-- What instructions do by their opcodes, and what they use their operands for.
use Rattle.std.specs.Prelude.{ℕ, List, [], ◌∷◌, Option, Some, None, slice_get, slice_index_or}
use Rattle.pex_verify.specs.declared.action.Action.{Action}
use Rattle.pex_verify.specs.declared.action.Action.TheVariants as action
use Rattle.pex_verify.specs.declared.action.Use.{Use}
use Rattle.pex_verify.specs.declared.action.Use.TheVariants.{Read, Write, Name, Number}

-- by the code: nop; iadd to imod with their float twins; not, ineg, fneg, assign, cast; cmp_eq to cmp_ge; jmp,
-- jmpt, jmpf; callmethod, callparent, callstatic; return, strcat, propget, propset; array_create to
-- array_setelement; array_findelement, array_rfindelement
abbrev pub action_table : List Action
action_table =
    action.Nothing
    ∷ action.Arithmetic ∷ action.Float ∷ action.Arithmetic ∷ action.Float ∷ action.Arithmetic
    ∷ action.Float ∷ action.Arithmetic ∷ action.Float ∷ action.Arithmetic
    ∷ action.Invert ∷ action.Negate ∷ action.Float ∷ action.Assign ∷ action.Cast
    ∷ action.Equal ∷ action.Order ∷ action.Order ∷ action.Order ∷ action.Order
    ∷ action.Jump ∷ action.JumpIf ∷ action.JumpIf
    ∷ action.CallMethod ∷ action.CallParent ∷ action.CallStatic
    ∷ action.Return ∷ action.Join ∷ action.GetProperty ∷ action.SetProperty
    ∷ action.CreateArray ∷ action.ArrayLength ∷ action.GetElement ∷ action.SetElement
    ∷ action.FindElement ∷ action.FindElement ∷ []

-- what instructions of the opcode do; None where it is no opcode
abbrev pub action_of : ℕ → Option Action
action_of opcode = slice_get action_table opcode

-- what an action uses its fixed operands for, in order
abbrev pub uses_of : Action → List Use
uses_of action.Nothing = []
uses_of action.Float = []
uses_of action.Arithmetic = Write ∷ Read ∷ Read ∷ []
uses_of action.Invert = Write ∷ Read ∷ []
uses_of action.Negate = Write ∷ Read ∷ []
uses_of action.Assign = Write ∷ Read ∷ []
uses_of action.Cast = Write ∷ Read ∷ []
uses_of action.Equal = Write ∷ Read ∷ Read ∷ []
uses_of action.Order = Write ∷ Read ∷ Read ∷ []
uses_of action.Jump = Number ∷ []
uses_of action.JumpIf = Read ∷ Number ∷ []
uses_of action.CallMethod = Name ∷ Read ∷ Write ∷ []
uses_of action.CallParent = Name ∷ Write ∷ []
uses_of action.CallStatic = Name ∷ Name ∷ Write ∷ []
uses_of action.Return = Read ∷ []
uses_of action.Join = Write ∷ Read ∷ Read ∷ []
uses_of action.GetProperty = Name ∷ Read ∷ Write ∷ []
uses_of action.SetProperty = Name ∷ Read ∷ Read ∷ []
uses_of action.CreateArray = Write ∷ Number ∷ []
uses_of action.ArrayLength = Write ∷ Read ∷ []
uses_of action.GetElement = Write ∷ Read ∷ Read ∷ []
uses_of action.SetElement = Read ∷ Read ∷ Read ∷ []
uses_of action.FindElement = Read ∷ Write ∷ Read ∷ Read ∷ []

-- the same where there may be no action
abbrev pub uses_by : Option Action → List Use
uses_by None = []
uses_by (Some a) = uses_of a

-- what the operand at this place is used for
abbrev pub use_at : List Use → ℕ → Use
use_at uses place = slice_index_or uses place Read
