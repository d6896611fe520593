-- What callers see of a machine, and what its turns leave.
use Rattle.std.specs.Prelude.{◌≡◌, ◌⊎◌, ℕ, ◌+◌, ◌<◌, ◌≤◌, List, Option, Some, Result, Ok, Err, vec_len}
use Rattle.core_tree.specs.declared.outline.OutlineScript.{OutlineScript}
use Rattle.core_tree.specs.declared.scene.Scene.{Scene}
use Rattle.core_tree.specs.declared.scene_tree.TurnOrder.TheVariants as orders
use Rattle.papy_io.specs.Count.{HasRisen}
use Rattle.stack_machine.specs.declared.status.TurnEnd.{TurnEnd}
use Rattle.stack_machine.specs.declared.status.TurnEnd.TheVariants.{Ran, Idle, Ended}
use Rattle.stack_machine.specs.declared.status.TurnFault.{TurnFault}
use Rattle.stack_machine.specs.declared.status.TurnFault.TheVariants.{WriteFault, OutOfMemory}

pub record MachineView : Type 0 where
  -- what no turn changes
  pub outline : List OutlineScript
  pub scene : Scene
  -- how many turns are done, and how many stacks have started and are done
  pub turns : ℕ
  pub started : ℕ
  pub done : ℕ
  -- the fault that it has answered
  pub fault : Option TurnFault

-- in round order, where every stack that has started is done and no scene call is left
pub record HasNothingLeft (machine : MachineView) : Type 0 where
  pub order : machine.scene.order ≡ orders.Round
  pub stacks : machine.done ≡ machine.started
  pub calls : vec_len machine.scene.calls ≤ machine.started

-- a run ends after the scene's turns, or earlier where nothing is left
abbrev pub HasEnded : MachineView → Type 0
HasEnded machine = (machine.scene.turns ≤ machine.turns) ⊎ HasNothingLeft machine

-- how many turns are done after this answer
abbrev pub turns_after : Result TurnEnd TurnFault → ℕ → ℕ
turns_after (Ok Ended) turns = turns
turns_after (Ok (Ran stack)) turns = turns + 1
turns_after (Ok Idle) turns = turns + 1
turns_after (Err fault) turns = turns

-- the fault that a machine has answered after this answer
abbrev pub fault_after : Result TurnEnd TurnFault → Option TurnFault → Option TurnFault
fault_after (Ok end) before = before
fault_after (Err fault) before = Some fault

-- a stack that ran has started
abbrev pub HasStarted : Result TurnEnd TurnFault → ℕ → Type 0
HasStarted (Ok (Ran stack)) started = stack < started
HasStarted (Ok Idle) started = Unit {0}
HasStarted (Ok Ended) started = Unit {0}
HasStarted (Err fault) started = Unit {0}

-- the count of a sink's faults rises with WriteFault
abbrev pub CountsFault : TurnFault → ℕ → ℕ → Type 0
CountsFault WriteFault before now = HasRisen before now
CountsFault OutOfMemory before now = now ≡ before

-- it rises exactly in a turn that answers WriteFault
abbrev pub CountsTurn : {T : Type 0} → Result T TurnFault → ℕ → ℕ → Type 0
CountsTurn (Ok value) before now = now ≡ before
CountsTurn (Err fault) before now = CountsFault fault before now
