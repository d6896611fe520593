-- A machine's state without where it lies in memory: a list in place of each vector.
use Rattle.std.specs.Prelude.{ℕ, ℤ, List, map, Option}
use Rattle.std.specs.declared.alloc.Global.{Global}
use Rattle.std.specs.declared.vec.Vec.{Vec}
use Rattle.core_tree.specs.Device.{DeviceState}
use Rattle.core_tree.specs.declared.DeviceKind.{DeviceKind}
use Rattle.core_tree.specs.declared.core_type.CoreType.{CoreType}
use Rattle.core_tree.specs.declared.value.Value.{Value}
use Rattle.machine_state.specs.declared.frame.BodyPlace.{BodyPlace}
use Rattle.machine_state.specs.declared.frame.FrameState.{FrameState}
use Rattle.machine_state.specs.declared.frame.FrameState.TheVariants as frames
use Rattle.machine_state.specs.declared.frame.Way.{Way}
use Rattle.machine_state.specs.declared.state.MachineState.{MachineState}

pub record PlainCall : Type 0 where
  pub instance : Option ℕ
  pub way : Way
  pub arguments : List Value

pub record PlainBody : Type 0 where
  pub instance : Option ℕ
  pub place : BodyPlace
  pub instruction : ℕ
  pub slots : List Value
  pub reply : Option Value

pub data PlainFrame : Type 0 where
  ToEnter : (call : PlainCall) → PlainFrame
  Running : (body : PlainBody) → PlainFrame

pub record PlainInstance : Type 0 where
  pub state : List ℕ
  pub values : List Value

pub record PlainArray : Type 0 where
  pub element : CoreType
  pub values : List Value

pub record PlainState : Type 0 where
  pub turn : ℕ
  pub last : Option ℕ
  pub instances : List PlainInstance
  pub owners : List (ℕ × ℕ)
  pub waiters : List (ℕ × ℕ)
  pub free : List ℕ
  pub asleep : List (ℕ × ℕ)
  pub arrays : List PlainArray
  pub devices : List DeviceState
  pub stacks : List (List PlainFrame)

-- ---- what a state holds

abbrev pub plain_frame : FrameState → PlainFrame
plain_frame (frames.ToEnter instance way arguments) =
    ToEnter (record { instance = instance; way = way; arguments = arguments.items })
plain_frame (frames.Running instance place instruction slots reply) =
    Running (record { instance = instance; place = place; instruction = instruction; slots = slots.items; reply = reply })

abbrev pub plain_stack : Vec FrameState Global → List PlainFrame
plain_stack stack = map plain_frame stack.items

abbrev pub plain_instance : List ℕ × Vec Value Global → PlainInstance
plain_instance instance = record { state = instance.0; values = instance.1.items }

abbrev pub plain_array : CoreType × Vec Value Global → PlainArray
plain_array array = record { element = array.0; values = array.1.items }

abbrev pub plain_device : DeviceKind × Vec ℤ Global × ℕ → DeviceState
plain_device device = record { kind = device.0; cells = device.1.items; place = device.2 }

abbrev pub plain : MachineState → PlainState
plain s = record {
  turn = s.turn;
  last = s.last;
  instances = map plain_instance s.instances.items;
  owners = s.owners.items;
  waiters = s.waiters.items;
  free = s.free.items;
  asleep = s.asleep.items;
  arrays = map plain_array s.arrays.items;
  devices = map plain_device s.devices.items;
  stacks = map plain_stack s.stacks.items;
}
