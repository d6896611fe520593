-- What reading a scene file gives.
use Rattle.std.specs.Prelude.{◌≡◌, ℕ, List, Option, None, Some, Result, Ok, Err}
use Rattle.papy_io.specs.Files.{Files, told_bytes}
use Rattle.scene_reader.specs.declared.fault.SceneFault.{SceneFault}
use Rattle.scene_reader.specs.declared.fault.SceneFault.TheVariants as fault
use Rattle.scene_reader.specs.declared.fault.SceneRule.{SceneRule}
use Rattle.command_files.specs.declared.file_fault.FileFault.{FileFault}
use Rattle.command_files.specs.declared.file_fault.FileFault.TheVariants.{ReadFault, OutOfMemory, Refused}
use Rattle.command_files.specs.declared.refusal.Place.{Place}
use Rattle.command_files.specs.declared.refusal.Place.TheVariants.{Whole}
use Rattle.command_files.specs.declared.refusal.Rule.{Rule}
use Rattle.command_files.specs.declared.refusal.Rule.TheVariants.{Scene}
use Rattle.command_files.specs.declared.scene_file.KeptScene.{KeptScene}
use Rattle.command_files.specs.Held.{IsHeld}

-- the fault of a scene file, by the fault of its text
abbrev pub scene_fault : SceneFault → FileFault
scene_fault (fault.Broken rule) = Refused Whole (Scene rule)
scene_fault fault.OutOfMemory = OutOfMemory

-- a rule of scenes, told of the whole file
pub record IsSceneRefusal (place : Place) (rule : Rule) : Type 0 where
  pub broken : SceneRule
  pub place_is : place ≡ Whole
  pub rule_is : rule ≡ Scene broken

-- the name is held where its scene was read or refused
abbrev pub ReadsScene : {T : Type 0} → Option Files → List ℕ → Result T FileFault → Type 0
ReadsScene None name result = Unit {0}
ReadsScene (Some files) name (Ok _) = IsHeld name files
ReadsScene (Some files) name (Err (Refused place rule)) = IsHeld name files × IsSceneRefusal place rule
ReadsScene (Some files) name (Err ReadFault) = Unit {0}
ReadsScene (Some files) name (Err OutOfMemory) = Unit {0}

-- no memory was found, or a rule of scenes is broken
abbrev pub IsSceneFault : FileFault → Type 0
IsSceneFault (Refused place rule) = IsSceneRefusal place rule
IsSceneFault OutOfMemory = Unit {0}
IsSceneFault ReadFault = ⊥

-- the same where an Ok has the scene's bytes
abbrev pub ReadsKeptScene : Option Files → List ℕ → Result KeptScene FileFault → Type 0
ReadsKeptScene None name result = Unit {0}
ReadsKeptScene (Some files) name (Ok scene) = told_bytes (Some files) name ≡ Some scene.text.items
ReadsKeptScene (Some files) name (Err (Refused place rule)) = IsHeld name files × IsSceneRefusal place rule
ReadsKeptScene (Some files) name (Err ReadFault) = Unit {0}
ReadsKeptScene (Some files) name (Err OutOfMemory) = Unit {0}
