-- Replies in the terms of the definitions.
use Rattle.std.proofs.Common.{◌≡◌, Option, Some, None, refl, sym, ap, ◌∙◌}
use Rattle.std.specs.Option.{option_map}
use Rattle.core_tree.specs.declared.value.Value.{Value}
use Rattle.code_meaning.specs.Code as plain
use Rattle.code_meaning.specs.Execution.{reply_result, with_reply}
use Rattle.loaded_code.specs.Plain.{instruction_of, operand_of}
use Rattle.loaded_code.specs.declared.instruction.LoadedInstruction.{LoadedInstruction}
use Rattle.loaded_code.specs.declared.instruction.LoadedInstruction.TheVariants as loaded
use Rattle.loaded_code.specs.declared.operand.Operand.{Operand}
use Rattle.body_runner.specs.declared.body.Home.{Home}
use Rattle.body_runner.specs.declared.body.Inner.{Inner}
use Rattle.body_runner.specs.Bodies.{home_of, inner_of}
use Rattle.body_runner.specs.Calls as calls
use Rattle.body_runner.specs.Operands.{Stores}
use Rattle.body_runner.specs.Sights.{IsThere}
use Rattle.body_runner.specs.Steps.{Gives}
use Rattle.body_runner.proofs.Kept.{nothing_kept, stored_kept}
use Rattle.body_runner.proofs.Meaning.{stored_meant}

result_same : (i : LoadedInstruction) → reply_result (instruction_of i) ≡ option_map operand_of (calls.reply_result i)
result_same loaded.Nop = refl
result_same (loaded.IAdd a b c) = refl
result_same (loaded.ISub a b c) = refl
result_same (loaded.IMul a b c) = refl
result_same (loaded.IDiv a b c) = refl
result_same (loaded.IMod a b c) = refl
result_same (loaded.Not a b) = refl
result_same (loaded.INeg a b) = refl
result_same (loaded.Assign a b) = refl
result_same (loaded.Cast a b) = refl
result_same (loaded.CmpEq a b c) = refl
result_same (loaded.CmpLt a b c) = refl
result_same (loaded.CmpLe a b c) = refl
result_same (loaded.CmpGt a b c) = refl
result_same (loaded.CmpGe a b c) = refl
result_same (loaded.Jmp a b) = refl
result_same (loaded.JmpT a b c) = refl
result_same (loaded.JmpF a b c) = refl
result_same (loaded.CallMethod a b c d e) = refl
result_same (loaded.CallParent a b c d) = refl
result_same (loaded.CallStatic a b c d e) = refl
result_same (loaded.Return a) = refl
result_same (loaded.StrCat a b c) = refl
result_same (loaded.PropGet a b c d) = refl
result_same (loaded.PropSet a b c d) = refl
result_same (loaded.ArrayCreate a b) = refl
result_same (loaded.ArrayLength a b) = refl
result_same (loaded.ArrayGetElement a b c) = refl
result_same (loaded.ArraySetElement a b c) = refl
result_same (loaded.ArrayFindElement a b c d) = refl
result_same (loaded.ArrayRFindElement a b c d) = refl

result_is : (i : LoadedInstruction) (o : Option Operand) → calls.reply_result i ≡ o → option_map operand_of o ≡ reply_result (instruction_of i)
result_is i o e = ap (option_map operand_of) (sym e) ∙ sym (result_same i)

pub gives : (home : Home) (call : LoadedInstruction) (o : Operand) (reply : Value) (old new : Inner) → calls.reply_result call ≡ Some o → IsThere home.instance old.store.now.instances → Stores home old new o reply → Gives home call reply old new
gives home call o reply old new is there stored = record {
  given = λ rest. stored_meant home old new rest o reply there stored ∙ ap (λ (to : Option plain.Operand). with_reply (home_of home) to reply (inner_of home old rest)) (result_is call (Some o) is);
  kept = stored_kept home old new o reply stored;
}

pub drops : (home : Home) (call : LoadedInstruction) (reply : Value) (inner : Inner) → ◌≡◌ {A = Option Operand} (calls.reply_result call) None → Gives home call reply inner inner
drops home call reply inner is = record {
  given = λ rest. ap (λ (to : Option plain.Operand). with_reply (home_of home) to reply (inner_of home inner rest)) (result_is call None is);
  kept = nothing_kept home inner;
}
