-- A scene that is bound to an outline, as plain data with lists in place of vectors.
use Rattle.std.specs.Prelude.{ℕ, ℤ, List, map}
use Rattle.std.specs.declared.alloc.Global.{Global}
use Rattle.std.specs.declared.vec.Vec.{Vec}
use Rattle.core_tree.specs.declared.scene.BoundCall.{BoundCall}
use Rattle.core_tree.specs.declared.scene.BoundInstance.{BoundInstance}
use Rattle.core_tree.specs.declared.scene.BoundNative.{BoundNative}
use Rattle.core_tree.specs.declared.scene.Scene.{Scene}
use Rattle.core_tree.specs.declared.scene_tree.TurnOrder.{TurnOrder}
use Rattle.core_tree.specs.declared.scene_tree.TurnOrder.TheVariants as orders
use Rattle.core_tree.specs.declared.value.Value.{Value}

-- each value of `set` stands after its script and the number of its variable
pub record InstanceShape : Type 0 where
  pub name : List ℕ
  pub script : ℕ
  pub set : List (ℕ × ℕ × Value)

pub record CallShape : Type 0 where
  pub turn : ℕ
  pub instance : ℕ
  pub function : List ℕ
  pub arguments : List Value

pub data OrderShape : Type 0 where
  Round : OrderShape
  Listed : (stacks : List ℕ) → OrderShape

pub record SceneShape : Type 0 where
  pub instances : List InstanceShape
  pub calls : List CallShape
  pub natives : List BoundNative
  pub tapes : List (List ℤ)
  pub devices : ℕ
  pub order : OrderShape
  pub turns : ℕ
  pub quantum : ℕ

abbrev pub instance_shape : BoundInstance → InstanceShape
instance_shape i = record { name = i.name; script = i.script; set = i.set.items }

abbrev pub call_shape : BoundCall → CallShape
call_shape c = record { turn = c.turn; instance = c.instance; function = c.function; arguments = c.arguments.items }

abbrev pub order_shape : TurnOrder → OrderShape
order_shape orders.Round = Round
order_shape (orders.List stacks) = Listed stacks.items

abbrev pub tape_shape : Vec ℤ Global → List ℤ
tape_shape tape = tape.items

abbrev pub scene_shape : Scene → SceneShape
scene_shape s =
    record { instances = map instance_shape s.instances.items; calls = map call_shape s.calls.items; natives = s.natives.items; tapes = map tape_shape s.tapes.items; devices = s.devices; order = order_shape s.order; turns = s.turns; quantum = s.quantum }
