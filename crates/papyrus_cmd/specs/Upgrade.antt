-- What `upgrade` reads and leaves.
use Rattle.std.specs.Prelude.{◌≡◌, ◌⊎◌, ℕ, ◌<◌, List, length, Option, None, Some, Result, Ok, Err}
use Rattle.std.specs.declared.alloc.Global.{Global}
use Rattle.std.specs.declared.vec.Vec.{Vec}
use Rattle.papy_io.specs.Files.{Files, told_bytes, ChangesTold}
use Rattle.papy_io.specs.WriteFile.{HoldsNow, MayHold}
use Rattle.scene_reader.specs.declared.fault.SceneRule.TheVariants.{Limit}
use Rattle.command_files.specs.declared.ending.Ending.{Ending}
use Rattle.command_files.specs.declared.ending.Ending.TheVariants as ending
use Rattle.command_files.specs.declared.file_fault.FileFault.{FileFault}
use Rattle.command_files.specs.declared.file_fault.FileFault.TheVariants.{ReadFault, OutOfMemory, Refused}
use Rattle.command_files.specs.declared.refusal.Place.{Place}
use Rattle.command_files.specs.declared.refusal.Rule.{Rule}
use Rattle.command_files.specs.declared.refusal.Rule.TheVariants.{Scene}
use Rattle.command_files.specs.SceneFile.{IsSceneRefusal}

-- the most bytes of a scene
abbrev pub limit : ℕ
limit = 16777216

-- a scene, written anew or refused
abbrev pub Upgraded : Result (Vec ℕ Global) FileFault → Type 0
Upgraded (Ok text) = Unit {0}
Upgraded (Err (Refused place rule)) = IsSceneRefusal place rule
Upgraded (Err OutOfMemory) = Unit {0}
Upgraded (Err ReadFault) = ⊥

-- a text is refused so as a scene: one of more than 16 MiB passes a limit, whatever else it breaks
pub record RefusesText (text : List ℕ) (place : Place) (rule : Rule) : Type 0 where
  pub refusal : IsSceneRefusal place rule
  pub too_large : limit < length text → rule ≡ Scene Limit

-- what reading the scene of this name gives
abbrev pub ReadsUpgraded : Option Files → List ℕ → Result (Vec ℕ Global) FileFault → Type 0
ReadsUpgraded None name result = Unit {0}
ReadsUpgraded (Some files) name (Ok _) = (text : List ℕ) × (told_bytes (Some files) name ≡ Some text)
ReadsUpgraded (Some files) name (Err (Refused place rule)) = (text : List ℕ) × (told_bytes (Some files) name ≡ Some text) × RefusesText text place rule
ReadsUpgraded (Some files) name (Err ReadFault) = Unit {0}
ReadsUpgraded (Some files) name (Err OutOfMemory) = Unit {0}

-- the name holds some text, and every other name what it held
abbrev pub Upgrades : List ℕ → Option Files → Option Files → Type 0
Upgrades name old new = (text : List ℕ) × ChangesTold name (HoldsNow text) old new

-- the same where the name may hold the first part of the text, or what it held, or nothing
abbrev pub MayUpgrade : List ℕ → Option Files → Option Files → Type 0
MayUpgrade name old new = (new ≡ old) ⊎ ((text : List ℕ) × ChangesTold name (MayHold text) old new)

-- what the files are by the way that `upgrade` ended
abbrev pub UpgradeLeaves : List ℕ → Ending → Option Files → Option Files → Type 0
UpgradeLeaves name ending.Done old new = Upgrades name old new
UpgradeLeaves name ending.WriteFault old new = MayUpgrade name old new
UpgradeLeaves name ending.OutOfMemory old new = MayUpgrade name old new
UpgradeLeaves name (ending.ReadFault word) old new = new ≡ old
UpgradeLeaves name (ending.Refused word place rule) old new = new ≡ old
UpgradeLeaves name ending.Usage old new = ⊥
UpgradeLeaves name ending.NotBuilt old new = ⊥
