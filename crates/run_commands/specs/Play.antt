-- How a command ends that runs a scene.
use Rattle.std.specs.Prelude.{◌≡◌, ℕ, ◌≤◌, List, length, Option, None, Result, Ok, Err}
use Rattle.core_tree.specs.declared.scene_tree.SceneTree.{SceneTree}
use Rattle.papy_io.specs.Sink.{AppendsSome}
use Rattle.scene_binder.specs.Kept.{IsOfTree}
use Rattle.stack_machine.specs.Machine.{MachineView}
use Rattle.stack_machine.specs.declared.status.TurnFault.{TurnFault}
use Rattle.stack_machine.specs.declared.status.TurnFault.TheVariants as turn
use Rattle.command_files.specs.declared.ending.Ending.{Ending}
use Rattle.command_files.specs.declared.ending.Ending.TheVariants.{Done, OutOfMemory, Usage, ReadFault, WriteFault, Refused, NotBuilt}
use Rattle.command_files.specs.declared.refusal.Place.{Place}
use Rattle.command_files.specs.declared.refusal.Rule.{Rule}
use Rattle.command_files.specs.SceneFile.{IsSceneRefusal}
use Rattle.run_commands.specs.Report.{WritesReport}

-- as many instances and calls as a scene may have
pub record HasFewParts (tree : SceneTree) : Type 0 where
  pub few_instances : length tree.instances.items ≤ 256
  pub few_calls : length tree.calls.items ≤ 1024

-- how a command ends whose run's turns ended so
abbrev pub turns_ending : TurnFault → Ending
turns_ending turn.WriteFault = WriteFault
turns_ending turn.OutOfMemory = OutOfMemory

-- the scene that the word of this number names breaks a rule of scenes
pub record RefusesScene (named word : ℕ) (place : Place) (rule : Rule) : Type 0 where
  pub word_is : word ≡ named
  pub refusal : IsSceneRefusal place rule

-- the machine of a scene before its first turn
pub record IsStarted (tree : SceneTree) (machine : MachineView) : Type 0 where
  pub count : ℕ
  pub kept : IsOfTree tree count machine.scene
  pub no_turns : machine.turns ≡ 0
  pub no_fault : machine.fault ≡ None

-- the scene that the word of this number names was bound and has its machine, or nothing was written as it is refused
abbrev pub Starts : SceneTree → ℕ → Result MachineView Ending → Type 0
Starts tree named (Ok machine) = IsStarted tree machine
Starts tree named (Err (Refused word place rule)) = RefusesScene named word place rule
Starts tree named (Err OutOfMemory) = Unit {0}
Starts tree named (Err WriteFault) = ⊥
Starts tree named (Err NotBuilt) = ⊥
Starts tree named (Err Usage) = ⊥
Starts tree named (Err Done) = ⊥
Starts tree named (Err (ReadFault word)) = ⊥

-- the scene that the word of this number names was run and its report was written, or the run was cut short, or nothing
-- was written as it is refused
abbrev pub Plays : SceneTree → ℕ → Ending → Option (List ℕ) → Option (List ℕ) → Type 0
Plays tree named Done before now = WritesReport tree before now
Plays tree named OutOfMemory before now = AppendsSome before now
Plays tree named WriteFault before now = AppendsSome before now
Plays tree named (Refused word place rule) before now = RefusesScene named word place rule × (now ≡ before)
Plays tree named NotBuilt before now = ⊥
Plays tree named Usage before now = ⊥
Plays tree named (ReadFault word) before now = ⊥

-- the same of a set of scripts, which may have no compiled files
abbrev pub PlaysSet : SceneTree → ℕ → Ending → Option (List ℕ) → Option (List ℕ) → Type 0
PlaysSet tree named Done before now = WritesReport tree before now
PlaysSet tree named OutOfMemory before now = AppendsSome before now
PlaysSet tree named WriteFault before now = AppendsSome before now
PlaysSet tree named (Refused word place rule) before now = RefusesScene named word place rule × (now ≡ before)
PlaysSet tree named NotBuilt before now = now ≡ before
PlaysSet tree named Usage before now = ⊥
PlaysSet tree named (ReadFault word) before now = ⊥
