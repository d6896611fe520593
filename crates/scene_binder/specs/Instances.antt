-- Which scripts have instances, and what a bound scene has of the one that was read.
use Rattle.std.specs.Prelude.{ℕ, ◌<◌, ◌≤◌, List, Option, length}
use Rattle.core_tree.specs.declared.outline.OutlineScript.{OutlineScript}
use Rattle.core_tree.specs.declared.scene_tree.SceneCall.{SceneCall}
use Rattle.core_tree.specs.declared.scene_tree.SceneInstance.{SceneInstance}
use Rattle.scene_binder.specs.Members.{script_named}

-- a script of the outline but for the first three
pub record IsInstantiable (scripts : List OutlineScript) (script : ℕ) : Type 0 where
  pub no_library : 3 ≤ script
  pub there : script < length scripts

abbrev pub tree_name : SceneInstance → List ℕ
tree_name instance = instance.name

-- the number of the script that an instance names
abbrev pub tree_script : List OutlineScript → SceneInstance → Option ℕ
tree_script scripts instance = script_named scripts instance.script

-- when a call begins, and the name of its function
abbrev pub tree_call_parts : SceneCall → ℕ × List ℕ
tree_call_parts call = (call.turn, call.function)
