-- What calls do with their replies.
use Rattle.std.specs.Prelude.{Option, Some, None}
use Rattle.loaded_code.specs.declared.instruction.LoadedInstruction.{LoadedInstruction}
use Rattle.loaded_code.specs.declared.instruction.LoadedInstruction.TheVariants as loaded
use Rattle.loaded_code.specs.declared.operand.Operand.{Operand}

-- the operand that takes the reply of a call; None of what is no call, and of propset
abbrev pub reply_result : LoadedInstruction → Option Operand
reply_result (loaded.CallMethod name number object result arguments) = Some result
reply_result (loaded.CallParent name number result arguments) = Some result
reply_result (loaded.CallStatic script name function result arguments) = Some result
reply_result (loaded.PropGet name number object result) = Some result
reply_result _ = None
