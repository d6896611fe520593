-- That the numbers in a state are those of their types. It holds of every state that a program has: what reads the
-- numbers knows it, and a definition that speaks of states alone has to say it.
use Rattle.std.specs.Prelude.{ℕ, ◌<◌, ◌^◌, ℤ, List, IfSome, FitsSigned}
use Rattle.std.specs.List.{AllByRecursion}
use Rattle.std.specs.Int.{w32}
use Rattle.core_tree.specs.Device.{DeviceState}
use Rattle.core_tree.specs.declared.core_type.CoreType.{CoreType}
use Rattle.core_tree.specs.declared.core_type.CoreType.TheVariants as kinds
use Rattle.core_tree.specs.declared.value.Value.{Value}
use Rattle.core_tree.specs.declared.value.Value.TheVariants as values
use Rattle.machine_state.specs.declared.frame.Way.{Way}
use Rattle.machine_state.specs.declared.frame.Way.TheVariants as ways
use Rattle.machine_state.specs.Plain.{PlainCall, PlainBody, PlainFrame, ToEnter, Running, PlainInstance, PlainArray, PlainState}

abbrev pub IsU16 : ℕ → Type 0
IsU16 number = number < 2 ^ 16

abbrev pub IsU32 : ℕ → Type 0
IsU32 number = number < 2 ^ 32

abbrev pub IsI32 : ℤ → Type 0
IsI32 number = FitsSigned w32 number

abbrev pub IsValueInRange : Value → Type 0
IsValueInRange (values.Int number) = IsI32 number
IsValueInRange (values.Instance number) = IsU16 number
IsValueInRange (values.Array number) = IsU16 number
IsValueInRange _ = Unit {0}

abbrev pub AreValuesInRange : List Value → Type 0
AreValuesInRange values = AllByRecursion IsValueInRange values

-- ---- frames

abbrev pub IsWayInRange : Way → Type 0
IsWayInRange (ways.Parent script name) = IsU16 script
IsWayInRange (ways.Global script name) = IsU16 script
IsWayInRange _ = Unit {0}

pub record IsCallInRange (call : PlainCall) : Type 0 where
  pub instance : IfSome call.instance IsU16
  pub way : IsWayInRange call.way
  pub arguments : AreValuesInRange call.arguments

pub record IsBodyInRange (body : PlainBody) : Type 0 where
  pub instance : IfSome body.instance IsU16
  pub script : IsU16 body.place.script
  pub instruction : IsU16 body.instruction
  pub slots : AreValuesInRange body.slots
  pub reply : IfSome body.reply IsValueInRange

abbrev pub IsFrameInRange : PlainFrame → Type 0
IsFrameInRange (ToEnter call) = IsCallInRange call
IsFrameInRange (Running body) = IsBodyInRange body

abbrev pub IsStackInRange : List PlainFrame → Type 0
IsStackInRange stack = AllByRecursion IsFrameInRange stack

-- ---- instances, arrays and devices

abbrev pub IsInstanceInRange : PlainInstance → Type 0
IsInstanceInRange instance = AreValuesInRange instance.values

abbrev pub IsTypeInRange : CoreType → Type 0
IsTypeInRange (kinds.Script number) = IsU16 number
IsTypeInRange (kinds.ScriptArray number) = IsU16 number
IsTypeInRange _ = Unit {0}

pub record IsArrayInRange (array : PlainArray) : Type 0 where
  pub element : IsTypeInRange array.element
  pub values : AreValuesInRange array.values

pub record IsDeviceInRange (device : DeviceState) : Type 0 where
  pub cells : AllByRecursion IsI32 device.cells
  pub place : device.place < 2 ^ 64

-- ---- the whole state

pub record IsPairInRange (pair : ℕ × ℕ) : Type 0 where
  pub first : IsU16 pair.0
  pub second : IsU16 pair.1

pub record IsSleeperInRange (sleeper : ℕ × ℕ) : Type 0 where
  pub stack : IsU16 sleeper.0
  pub due : IsU32 sleeper.1

pub record IsInRange (s : PlainState) : Type 0 where
  pub turn : IsU32 s.turn
  pub last : IfSome s.last IsU16
  pub instances : AllByRecursion IsInstanceInRange s.instances
  pub owners : AllByRecursion IsPairInRange s.owners
  pub waiters : AllByRecursion IsPairInRange s.waiters
  pub free : AllByRecursion IsU16 s.free
  pub asleep : AllByRecursion IsSleeperInRange s.asleep
  pub arrays : AllByRecursion IsArrayInRange s.arrays
  pub devices : AllByRecursion IsDeviceInRange s.devices
  pub stacks : AllByRecursion IsStackInRange s.stacks
