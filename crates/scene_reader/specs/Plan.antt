-- A scene as its file has it, as plain data with lists in place of vectors.
use Rattle.std.specs.Prelude.{ℕ, ℤ, List, map}
use Rattle.core_tree.specs.Scenes.{OrderShape, order_shape, tape_shape}
use Rattle.core_tree.specs.declared.scene_tree.Binding.{Binding}
use Rattle.core_tree.specs.declared.scene_tree.SceneTree.{SceneTree}
use Rattle.scene_reader.specs.Default.{CallPlan, InstancePlan, call_plan, instance_plan}

pub record ScenePlan : Type 0 where
  pub instances : List InstancePlan
  pub calls : List CallPlan
  pub natives : List (List ℕ × Binding)
  pub tapes : List (List ℤ)
  pub order : OrderShape
  pub turns : ℕ
  pub quantum : ℕ

abbrev pub scene_plan : SceneTree → ScenePlan
scene_plan s =
    record { instances = map instance_plan s.instances.items; calls = map call_plan s.calls.items; natives = s.natives.items; tapes = map tape_shape s.tapes.items; order = order_shape s.order; turns = s.turns; quantum = s.quantum }
