-- Whole files that were read: their size, and what they were found to be.
use Rattle.std.proofs.Common.{arith, ◌≡◌, ◌≤◌, ◌+◌, ℕ, length, refl, subst}
use Rattle.std.specs.Prelude.{Option, None, Some, Ok, Err, List}
use Rattle.std.specs.declared.alloc.Global.{Global}
use Rattle.std.specs.declared.vec.Vec.{Vec}
use Rattle.core_tree.specs.declared.scene_tree.SceneTree.{SceneTree}
use Rattle.papy_io.specs.Files.{Files}
use Rattle.papy_io.specs.ReadAll.{ReadsFile}
use Rattle.scene_reader.specs.declared.fault.SceneFault.{SceneFault}
use Rattle.scene_reader.specs.declared.fault.SceneFault.TheVariants as scene
use Rattle.scene_reader.specs.declared.fault.SceneRule.TheVariants.{Limit}
use Rattle.command_files.specs.declared.file_fault.FileFault.{FileFault}
use Rattle.command_files.specs.declared.file_fault.FileFault.TheVariants.{ReadFault, OutOfMemory, Refused}
use Rattle.command_files.specs.declared.refusal.Place.TheVariants.{Whole}
use Rattle.command_files.specs.declared.refusal.Rule.TheVariants.{Scene}
use Rattle.command_files.specs.declared.scene_file.KeptScene.{KeptScene}
use Rattle.command_files.specs.SceneFile.{IsSceneFault, ReadsKeptScene, ReadsScene, scene_fault}
use Rattle.command_files.specs.TextFile.{ReadsText}

pub read_small : (holds : Option Files) (name : List ℕ) (most : ℕ) (text : Vec ℕ Global) → ReadsFile holds name most (Ok text) → length text.items ≤ most
read_small None name most text read = read.0
read_small (Some files) name most text read = read.0

-- ---- scenes

pub scene_unread : (holds : Option Files) (name : List ℕ) (fault : FileFault) → ReadsText holds name 16777216 Whole (Scene Limit) (Err fault) → ReadsKeptScene holds name (Err fault)
scene_unread None name fault read = tt
scene_unread (Some files) name ReadFault read = tt
scene_unread (Some files) name OutOfMemory read = tt
scene_unread (Some files) name (Refused place rule) (bytes, held, past, place_is, rule_is) = ((bytes, held), record { broken = Limit; place_is = place_is; rule_is = rule_is })

pub scene_parsed : (holds : Option Files) (name : List ℕ) (text : Vec ℕ Global) (tree : SceneTree) → ReadsText holds name 16777216 Whole (Scene Limit) (Ok text) → ReadsKeptScene holds name (Ok (record { tree = tree; text = text }))
scene_parsed None name text tree read = tt
scene_parsed (Some files) name text tree read = read.1

pub scene_refused : (holds : Option Files) (name : List ℕ) (text : Vec ℕ Global) (fault : FileFault) → ReadsText holds name 16777216 Whole (Scene Limit) (Ok text) → IsSceneFault fault → ReadsKeptScene holds name (Err fault)
scene_refused None name text fault read is = tt
scene_refused (Some files) name text ReadFault read is = tt
scene_refused (Some files) name text OutOfMemory read is = tt
scene_refused (Some files) name text (Refused place rule) read is = ((text.items, read.1), is)

pub scene_broken : (fault : SceneFault) → IsSceneFault (scene_fault fault)
scene_broken (scene.Broken rule) = record { broken = rule; place_is = refl; rule_is = refl }
scene_broken scene.OutOfMemory = tt

-- without the text
pub scene_alone : (holds : Option Files) (name : List ℕ) (scene : KeptScene) → ReadsKeptScene holds name (Ok scene) → ReadsScene holds name (Ok scene.tree)
scene_alone None name scene read = tt
scene_alone (Some files) name scene read = (scene.text.items, read)

pub scene_unloaded : (holds : Option Files) (name : List ℕ) (fault : FileFault) → ReadsKeptScene holds name (Err fault) → ReadsScene {T = SceneTree} holds name (Err fault)
scene_unloaded None name fault read = tt
scene_unloaded (Some files) name ReadFault read = tt
scene_unloaded (Some files) name OutOfMemory read = tt
scene_unloaded (Some files) name (Refused place rule) read = read
