-- Instructions in a row, in the terms of the definitions.
use Rattle.std.specs.Prelude.{◌≡◌, ℕ, suc, ◌≤◌, true, length, Some, slice_get}
use Rattle.loaded_code.specs.declared.instruction.LoadedInstruction.{LoadedInstruction}
use Rattle.script_meaning.specs.Requests.{LoopPass}
use Rattle.pex_verify.specs.Coded.{IsCodedFunction}
use Rattle.body_runner.specs.declared.body.Home.{Home}
use Rattle.body_runner.specs.declared.body.Inner.{Inner}
use Rattle.body_runner.specs.declared.instructions.Step.{Step}
use Rattle.body_runner.specs.declared.instructions.Step.TheVariants.{Done, Faulted, Jump, Leaves}
use Rattle.body_runner.specs.Bodies.{KeepsOthers, inner_of, printing, runs}
use Rattle.body_runner.specs.Sights.{Rest}
use Rattle.body_runner.specs.Steps.{is_leaving}

-- jumps lead where their offsets say, and arrays are made of 1 to 128 elements
abbrev pub IsCodedIn : Home → Type 0
IsCodedIn home = IsCodedFunction (length home.turn.now.setting.now.loaded.scripts) home.function.now

-- the body comes to a place, and changes no instance but its own
pub record Reaches (home : Home) (from place : ℕ) (old new : Inner) : Type 0 where
  pub ran : (rest : Rest) → runs home from old rest ≡ runs home place new rest
  pub kept : KeepsOthers home old new

-- the instruction at a place calls or returns
pub record LeavesAt (home : Home) (place : ℕ) : Type 0 where
  pub instruction : LoadedInstruction
  pub is : slice_get home.function.now.code.items place ≡ Some instruction
  pub leaving : is_leaving instruction ≡ true

-- what the body does from a place on, where its row halted at another: it is done where the code has no more
abbrev pub RowMeans : Home → ℕ → ℕ → Step → Inner → Inner → Type 0
RowMeans home from place Done old new =
    (length home.function.now.code.items ≤ place) × ((rest : Rest) → runs home from old rest ≡ runs home place new rest)
RowMeans home from place (Faulted fault) old new =
    (rest : Rest) → runs home from old rest ≡ runs home (suc place) new (printing home place (Some fault) rest)
RowMeans home from place (Jump landing) old new =
    (rest : Rest) → runs home from old rest ≡ record { request = LoopPass; at = landing; inner = inner_of home new rest }
RowMeans home from place Leaves old new =
    LeavesAt home place × ((rest : Rest) → runs home from old rest ≡ runs home place new rest)

-- the row is what its instructions mean, and the body changes no instance but its own
pub record Rows (home : Home) (from place : ℕ) (halt : Step) (old new : Inner) : Type 0 where
  pub means : RowMeans home from place halt old new
  pub kept : KeepsOthers home old new
