-- What `hold` writes.
use Rattle.std.specs.Prelude.{◌≡◌, ◌⊎◌, ℕ, ◌<◌, ◌≤◌, List, length, Option, Some, Result, Ok, Err, IfSome}
use Rattle.std.specs.declared.alloc.Global.{Global}
use Rattle.std.specs.declared.vec.Vec.{Vec}
use Rattle.machine_state.specs.Plain.{PlainState}
use Rattle.papy_io.specs.Files.{Files, told_bytes, ChangesTold}
use Rattle.papy_io.specs.Sink.{AppendsSome}
use Rattle.papy_io.specs.WriteFile.{HoldsNow, MayHold}
use Rattle.stack_machine.specs.Written.{AppendsLines}
use Rattle.stack_save.specs.Held.{Spells, limit}
use Rattle.stack_save.specs.Spelling.{spelling}
use Rattle.stack_save.specs.declared.fault.HeldRule.TheVariants.{TooLarge}
use Rattle.command_files.specs.declared.ending.Ending.{Ending}
use Rattle.command_files.specs.declared.ending.Ending.TheVariants.{Done, OutOfMemory, Usage, ReadFault, WriteFault, Refused, NotBuilt}
use Rattle.command_files.specs.declared.refusal.Place.{Place}
use Rattle.command_files.specs.declared.refusal.Place.TheVariants.{Whole}
use Rattle.command_files.specs.declared.refusal.Rule.{Rule}
use Rattle.command_files.specs.declared.refusal.Rule.TheVariants.{Held}
use Rattle.command_files.specs.Held.{Hold}
use Rattle.run_commands.specs.Play.{RefusesScene}
use Rattle.run_commands.specs.Program.{files_from, scene_of}

-- the bytes spell compiled files, a scene, and a state after at most so many turns
pub record IsHeldRun (most : ℕ) (values : List (List ℕ)) (scene bytes : List ℕ) : Type 0 where
  pub state : PlainState
  pub within : state.turn ≤ most
  pub spells : Spells values scene state bytes
  pub small : length bytes ≤ limit

-- the file that the word of this number names would be too large
pub record IsTooLarge (named word : ℕ) (place : Place) (rule : Rule) : Type 0 where
  pub word_is : word ≡ named
  pub place_is : place ≡ Whole
  pub rule_is : rule ≡ Held TooLarge

-- what saving a run gives
abbrev pub Saves : List (List ℕ) → List ℕ → PlainState → Result (Vec ℕ Global) Ending → Type 0
Saves values scene state (Ok bytes) = Spells values scene state bytes.items × (length bytes.items ≤ limit)
Saves values scene state (Err (Refused word place rule)) = IsTooLarge 3 word place rule × (limit < length (spelling values scene state))
Saves values scene state (Err OutOfMemory) = Unit {0}
Saves values scene state (Err WriteFault) = ⊥
Saves values scene state (Err Done) = ⊥
Saves values scene state (Err Usage) = ⊥
Saves values scene state (Err NotBuilt) = ⊥
Saves values scene state (Err (ReadFault word)) = ⊥

-- the bytes of a held run, and the lines that were written before; or the command ends so
abbrev pub PlaysHeld : ℕ → List (List ℕ) → List ℕ → Result (Vec ℕ Global) Ending → Option (List ℕ) → Option (List ℕ) → Type 0
PlaysHeld most values scene (Ok bytes) before now = IsHeldRun most values scene bytes.items × AppendsLines before now
PlaysHeld most values scene (Err (Refused word place rule)) before now =
    (RefusesScene 2 word place rule × (now ≡ before)) ⊎ (IsTooLarge 3 word place rule × AppendsLines before now)
PlaysHeld most values scene (Err OutOfMemory) before now = AppendsSome before now
PlaysHeld most values scene (Err WriteFault) before now = AppendsSome before now
PlaysHeld most values scene (Err Done) before now = ⊥
PlaysHeld most values scene (Err Usage) before now = ⊥
PlaysHeld most values scene (Err NotBuilt) before now = ⊥
PlaysHeld most values scene (Err (ReadFault word)) before now = ⊥

-- the names of the scene and of the compiled files hold these bytes
pub record HoldsProgram (words values : List (List ℕ)) (scene : List ℕ) (files : Files) : Type 0 where
  pub scene_held : told_bytes (Some files) (scene_of 2 words) ≡ Some scene
  pub values_held : Hold files (files_from 4 words) values

-- the bytes spell a state after at most so many turns, with the files that the words name and that are held
pub record HoldsRun (most : ℕ) (words : List (List ℕ)) (holds : Option Files) (bytes : List ℕ) : Type 0 where
  pub values : List (List ℕ)
  pub scene : List ℕ
  pub run : IsHeldRun most values scene bytes
  pub held : IfSome holds (HoldsProgram words values scene)

-- the name of the held file holds them
abbrev pub WritesHeld : ℕ → List (List ℕ) → List ℕ → Option Files → Option Files → Type 0
WritesHeld most words file old new = (bytes : List ℕ) × HoldsRun most words old bytes × ChangesTold file (HoldsNow bytes) old new

-- the same where the name may hold the first part of the bytes, or what it held, or nothing
abbrev pub MayWriteHeld : ℕ → List (List ℕ) → List ℕ → Option Files → Option Files → Type 0
MayWriteHeld most words file old new = (new ≡ old) ⊎ ((bytes : List ℕ) × HoldsRun most words old bytes × ChangesTold file (MayHold bytes) old new)

-- what the files are by the way that `hold` ended
abbrev pub HoldLeaves : ℕ → List (List ℕ) → List ℕ → Ending → Option Files → Option Files → Type 0
HoldLeaves most words file Done old new = WritesHeld most words file old new
HoldLeaves most words file WriteFault old new = MayWriteHeld most words file old new
HoldLeaves most words file OutOfMemory old new = MayWriteHeld most words file old new
HoldLeaves most words file (ReadFault word) old new = new ≡ old
HoldLeaves most words file (Refused word place rule) old new = new ≡ old
HoldLeaves most words file Usage old new = ⊥
HoldLeaves most words file NotBuilt old new = ⊥
