-- An instruction that was judged.
use Rattle.std.specs.Prelude.{◌≡◌, ℕ, List, [], Some, length, map}
use Rattle.std.specs.List.{AllByRecursion}
use Rattle.core_tree.specs.Outlines.{ScriptShape}
use Rattle.pex_values.specs.declared.values.Instruction.{Instruction}
use Rattle.code_meaning.specs.Code.{Function, Script}
use Rattle.run_laws.specs.TypedCode.{Scope, IsTyped}
use Rattle.pex_verify.specs.declared.action.Action.{Action}
use Rattle.pex_verify.specs.declared.judged.JudgedInstruction.{JudgedInstruction}
use Rattle.pex_verify.specs.declared.judged.JudgedOperand.{JudgedOperand as Operand}
use Rattle.pex_verify.specs.declared.operand_rules.Lookup.{Lookup}
use Rattle.pex_verify.specs.declared.scope.FunctionScope.{FunctionScope}
use Rattle.pex_verify.specs.Accepted.{HasInstance, OperandsFit}
use Rattle.pex_verify.specs.Agreement.{Agrees, AreNumbered, Stands}
use Rattle.pex_verify.specs.Found.{Allows, AreTold, LooksUp}
use Rattle.pex_verify.specs.JudgedCode.{instruction_of}
use Rattle.pex_verify.specs.Uses.{action_of, uses_of}

-- operands, as the file has them and as they were resolved, are what an action asks for, with what it looks up
pub record IsJudgedAs (scope : FunctionScope) (action : Action) (instruction : Instruction) (fixed more : List Operand) : Type 0 where
  pub told : AreTold scope (uses_of action) instruction.fixed.items fixed
  pub more_told : AreTold scope [] instruction.more.items more
  pub found : Lookup
  pub sought : LooksUp scope action instruction.fixed.items fixed found
  pub instance : HasInstance scope action
  pub fit : OperandsFit scope action fixed more found
  pub allowed : Allows action (length more) found

-- the same of the instruction's own action
pub record IsJudged (scope : FunctionScope) (instruction : Instruction) (fixed more : List Operand) : Type 0 where
  pub action : Action
  pub does : action_of instruction.opcode ≡ Some action
  pub judged : IsJudgedAs scope action instruction fixed more

-- ---- in the end
-- scripts that agree with the tables, and a function of them that has the types that are seen where its code is judged
pub record Final (scope : FunctionScope) : Type 0 where
  pub names : List (List ℕ)
  pub outline : List ScriptShape
  pub scripts : List Script
  pub function : Function
  pub agrees : Agrees scope.home.now.set.now names outline scripts
  pub numbered : AreNumbered scope names
  pub stands : Stands scope outline function

abbrev pub placed_in : (scope : FunctionScope) → Final scope → Scope
placed_in scope final =
    record { outline = final.outline; scripts = final.scripts; script = scope.home.now.here; function = final.function }

-- whichever scripts they are, a loaded instruction is typed
abbrev pub IsTypedIn : FunctionScope → JudgedInstruction → Type 0
IsTypedIn scope loaded = (final : Final scope) → IsTyped (placed_in scope final) (instruction_of final.outline loaded)

-- each of these
abbrev pub AreTypedIn : FunctionScope → List JudgedInstruction → Type 0
AreTypedIn scope loaded =
    (final : Final scope) → AllByRecursion (IsTyped (placed_in scope final)) (map (instruction_of final.outline) loaded)
