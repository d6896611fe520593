-- The scene of one script that runs without a scene file.
use Rattle.std.specs.Prelude.{ℕ, ◌≡◌, List, [], ◌∷◌, map, codes}
use Rattle.core_tree.specs.declared.scene_tree.SceneCall.{SceneCall}
use Rattle.core_tree.specs.declared.scene_tree.SceneInstance.{SceneInstance}
use Rattle.core_tree.specs.declared.scene_tree.SceneTree.{SceneTree}
use Rattle.core_tree.specs.declared.scene_tree.SceneValue.{SceneValue}
use Rattle.core_tree.specs.declared.scene_tree.TurnOrder.TheVariants as orders

pub record InstancePlan : Type 0 where
  pub name : List ℕ
  pub script : List ℕ
  pub set : List (List ℕ × SceneValue)

pub record CallPlan : Type 0 where
  pub turn : ℕ
  pub instance : List ℕ
  pub function : List ℕ
  pub arguments : List SceneValue

abbrev pub instance_plan : SceneInstance → InstancePlan
instance_plan i = record { name = i.name; script = i.script; set = i.set.items }

abbrev pub call_plan : SceneCall → CallPlan
call_plan c = record { turn = c.turn; instance = c.instance; function = c.function; arguments = c.arguments.items }

-- one instance `it` of the script
abbrev pub it : List ℕ → InstancePlan
it script = record { name = codes "it"; script = script; set = [] }

-- its event OnInit at turn 0
abbrev pub on_init : CallPlan
on_init = record { turn = 0; instance = codes "it"; function = codes "OnInit"; arguments = [] }

pub record IsDefaultScene (script : List ℕ) (tree : SceneTree) : Type 0 where
  pub instances : map instance_plan tree.instances.items ≡ it script ∷ []
  pub calls : map call_plan tree.calls.items ≡ on_init ∷ []
  pub natives : tree.natives.items ≡ []
  pub tapes : tree.tapes.items ≡ []
  pub order : tree.order ≡ orders.Round
  pub turns : tree.turns ≡ 10000
  pub quantum : tree.quantum ≡ 1
