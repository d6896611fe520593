-- What instructions do, in the terms of the definitions.
use Rattle.std.specs.Prelude.{◌≡◌, ℕ, ◌≤◌, Bool, true, false, not, ℤ, Option, Some, None, Result, Ok, Err}
use Rattle.papy_base.specs.declared.faults.StackFault.{StackFault}
use Rattle.loaded_code.specs.Plain.{instruction_of}
use Rattle.loaded_code.specs.declared.instruction.LoadedInstruction.{LoadedInstruction}
use Rattle.loaded_code.specs.declared.instruction.LoadedInstruction.TheVariants as loaded
use Rattle.core_tree.specs.declared.value.Value.{Value}
use Rattle.code_meaning.specs.Execution.{executed, jumped, next, reply_result, with_reply}
use Rattle.body_runner.specs.declared.body.Home.{Home}
use Rattle.body_runner.specs.declared.body.Inner.{Inner}
use Rattle.body_runner.specs.declared.instructions.Step.{Step}
use Rattle.body_runner.specs.declared.instructions.Step.TheVariants.{Done, Faulted, Jump, Leaves}
use Rattle.body_runner.specs.Bodies.{KeepsOthers, home_of, inner_of, printing}
use Rattle.body_runner.specs.Operands.{StoresNothing}
use Rattle.body_runner.specs.Sights.{Rest}

-- the next instruction follows, after this fault if there is one, whatever the devices are and was printed before
abbrev pub GoesOn : Home → LoadedInstruction → Option StackFault → Inner → Inner → Type 0
GoesOn home instruction fault old new =
    (at : ℕ) (rest : Rest) → executed (home_of home) at (instruction_of instruction) (inner_of home old rest) ≡ next (inner_of home new (printing home at fault rest))

-- the offset of a jump, and where it leads
abbrev pub jump_of : LoadedInstruction → Option (ℤ × ℕ)
jump_of (loaded.Jmp offset landing) = Some (offset, landing)
jump_of (loaded.JmpT condition offset landing) = Some (offset, landing)
jump_of (loaded.JmpF condition offset landing) = Some (offset, landing)
jump_of _ = None

-- the jump is taken
pub record Jumps (home : Home) (instruction : LoadedInstruction) (landing : ℕ) (old new : Inner) : Type 0 where
  pub offset : ℤ
  pub is : jump_of instruction ≡ Some (offset, landing)
  pub taken : (at : ℕ) (rest : Rest) → executed (home_of home) at (instruction_of instruction) (inner_of home old rest) ≡ jumped at offset (inner_of home new rest)

-- whether an instruction calls or returns
abbrev pub is_leaving : LoadedInstruction → Bool
is_leaving (loaded.CallMethod name number object result arguments) = true
is_leaving (loaded.CallParent name number result arguments) = true
is_leaving (loaded.CallStatic script name function result arguments) = true
is_leaving (loaded.Return value) = true
is_leaving (loaded.PropGet name number object result) = true
is_leaving (loaded.PropSet name number object value) = true
is_leaving _ = false

-- nothing is done yet of an instruction that calls or returns
pub record Waits (instruction : LoadedInstruction) (old new : Inner) : Type 0 where
  pub leaving : is_leaving instruction ≡ true
  pub nothing : StoresNothing old new

abbrev pub StepMeans : Home → LoadedInstruction → Step → Inner → Inner → Type 0
StepMeans home instruction Done old new = GoesOn home instruction None old new
StepMeans home instruction (Faulted fault) old new = GoesOn home instruction (Some fault) old new
StepMeans home instruction (Jump landing) old new = Jumps home instruction landing old new
StepMeans home instruction Leaves old new = Waits instruction old new

-- the step is what the instruction means, and the body changes no instance but its own
pub record Steps (home : Home) (instruction : LoadedInstruction) (step : Step) (old new : Inner) : Type 0 where
  pub means : StepMeans home instruction step old new
  pub kept : KeepsOthers home old new

-- ---- steps by what was answered
abbrev pub step_of : Option StackFault → Step
step_of None = Done
step_of (Some fault) = Faulted fault

abbrev pub answered_of : {E : Type 0} → Result (Option StackFault) E → Result Step E
answered_of (Ok fault) = Ok (step_of fault)
answered_of (Err error) = Err error

abbrev pub done_of : {E : Type 0} → Result Unit E → Result Step E
done_of (Ok nothing) = Ok Done
done_of (Err error) = Err error

-- a jump that is taken, or not
abbrev pub jump_step : Bool → ℕ → Step
jump_step true landing = Jump landing
jump_step false landing = Done

abbrev pub same_truth : Bool → Bool → Bool
same_truth true other = other
same_truth false other = not other

-- an array has from 1 to 128 elements
abbrev pub IsSized : LoadedInstruction → Type 0
IsSized (loaded.ArrayCreate result size) = (1 ≤ size) × (size ≤ 128)
IsSized _ = Unit {0}

-- ---- replies
-- the reply to a call is stored where the call says, and no instance but the body's own changes
pub record Gives (home : Home) (call : LoadedInstruction) (reply : Value) (old new : Inner) : Type 0 where
  pub given : (rest : Rest) → inner_of home new rest ≡ with_reply (home_of home) (reply_result (instruction_of call)) reply (inner_of home old rest)
  pub kept : KeepsOthers home old new
