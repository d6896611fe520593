-- What a bound scene has of the scene that was read.
use Rattle.std.specs.Prelude.{ℕ, ◌≡◌, map}
use Rattle.core_tree.specs.declared.scene.Scene.{Scene}
use Rattle.core_tree.specs.declared.scene_tree.SceneTree.{SceneTree}
use Rattle.scene_binder.specs.Bound.{instance_name, call_parts}
use Rattle.scene_binder.specs.Instances.{tree_name, tree_call_parts}

pub record IsOfTree (tree : SceneTree) (count : ℕ) (scene : Scene) : Type 0 where
  pub names : map instance_name scene.instances.items ≡ map tree_name tree.instances.items
  pub calls : map call_parts scene.calls.items ≡ map tree_call_parts tree.calls.items
  pub tapes : scene.tapes ≡ tree.tapes
  pub devices : scene.devices ≡ count
  pub order : scene.order ≡ tree.order
  pub turns : scene.turns ≡ tree.turns
  pub quantum : scene.quantum ≡ tree.quantum
