-- Which states a held file has the fields for: lists and texts are no longer than their counts can say, and what has to
-- ascend does. The ranges of numbers are those of their types, and stand in Ranges.
use Rattle.std.specs.Prelude.{ℕ, ◌<◌, ◌≤◌, ◌^◌, List, map, length, Option, Some, None, IfSome}
use Rattle.std.specs.List.{AllByRecursion}
use Rattle.std.specs.List.Sorted.{IsStrictlyIncreasing}
use Rattle.core_tree.specs.Device.{DeviceState}
use Rattle.core_tree.specs.declared.core_type.CoreType.{CoreType}
use Rattle.core_tree.specs.declared.core_type.CoreType.TheVariants as kinds
use Rattle.core_tree.specs.declared.value.Value.{Value}
use Rattle.core_tree.specs.declared.value.Value.TheVariants as values
use Rattle.machine_state.specs.declared.frame.BodyPlace.{BodyPlace}
use Rattle.machine_state.specs.declared.frame.Way.{Way}
use Rattle.machine_state.specs.declared.frame.Way.TheVariants as ways
use Rattle.machine_state.specs.Plain.{PlainCall, PlainBody, PlainFrame, ToEnter, Running, PlainInstance, PlainArray, PlainState}

-- so many fit a count of one, two or four bytes

abbrev pub FitsByte : {A : Type 0} → List A → Type 0
FitsByte items = length items < 2 ^ 8

abbrev pub FitsTwoBytes : {A : Type 0} → List A → Type 0
FitsTwoBytes items = length items < 2 ^ 16

abbrev pub FitsFourBytes : {A : Type 0} → List A → Type 0
FitsFourBytes items = length items < 2 ^ 32

-- the number that would say none is no number
abbrev pub IsNumbered : Option ℕ → Type 0
IsNumbered None = Unit {0}
IsNumbered (Some number) = number < 65535

abbrev pub IsSavableValue : Value → Type 0
IsSavableValue (values.Text text) = FitsTwoBytes text
IsSavableValue _ = Unit {0}

abbrev pub AreSavableValues : List Value → Type 0
AreSavableValues values = AllByRecursion IsSavableValue values

-- ---- frames

abbrev pub name_of : Way → List ℕ
name_of (ways.Method name) = name
name_of (ways.Parent script name) = name
name_of (ways.Global script name) = name
name_of (ways.Get name) = name
name_of (ways.Set name) = name

pub record IsSavablePlace (place : BodyPlace) : Type 0 where
  pub state : FitsTwoBytes place.state
  pub function : FitsTwoBytes place.function
  pub kind : place.kind ≤ 2

pub record IsSavableCall (call : PlainCall) : Type 0 where
  pub instance : IsNumbered call.instance
  pub name : FitsTwoBytes (name_of call.way)
  pub count : FitsTwoBytes call.arguments
  pub arguments : AreSavableValues call.arguments

pub record IsSavableBody (body : PlainBody) : Type 0 where
  pub instance : IsNumbered body.instance
  pub place : IsSavablePlace body.place
  pub count : FitsTwoBytes body.slots
  pub slots : AreSavableValues body.slots
  pub reply : IfSome body.reply IsSavableValue

abbrev pub IsSavableFrame : PlainFrame → Type 0
IsSavableFrame (ToEnter call) = IsSavableCall call
IsSavableFrame (Running body) = IsSavableBody body

pub record IsSavableStack (stack : List PlainFrame) : Type 0 where
  pub count : FitsTwoBytes stack
  pub frames : AllByRecursion IsSavableFrame stack

-- ---- instances, arrays and devices

pub record IsSavableInstance (instance : PlainInstance) : Type 0 where
  pub state : FitsTwoBytes instance.state
  pub count : FitsFourBytes instance.values
  pub values : AreSavableValues instance.values

-- an element has no array type
abbrev pub IsElementType : CoreType → Type 0
IsElementType kinds.Int = Unit {0}
IsElementType kinds.Bool = Unit {0}
IsElementType kinds.Text = Unit {0}
IsElementType (kinds.Script number) = Unit {0}
IsElementType kinds.IntArray = ⊥
IsElementType kinds.BoolArray = ⊥
IsElementType kinds.TextArray = ⊥
IsElementType (kinds.ScriptArray number) = ⊥

pub record IsSavableArray (array : PlainArray) : Type 0 where
  pub element : IsElementType array.element
  pub count : FitsByte array.values
  pub values : AreSavableValues array.values

abbrev pub IsSavableDevice : DeviceState → Type 0
IsSavableDevice device = FitsFourBytes device.cells

-- ---- the whole state

abbrev pub firsts : List (ℕ × ℕ) → List ℕ
firsts pairs = map (λ (pair : ℕ × ℕ). pair.0) pairs

pub record IsSavable (s : PlainState) : Type 0 where
  pub last : IsNumbered s.last
  pub instances : FitsTwoBytes s.instances
  pub each_instance : AllByRecursion IsSavableInstance s.instances
  pub owners : FitsTwoBytes s.owners
  pub owners_ascend : IsStrictlyIncreasing (firsts s.owners)
  pub waiters : FitsTwoBytes s.waiters
  pub free : FitsTwoBytes s.free
  pub free_ascend : IsStrictlyIncreasing s.free
  pub asleep : FitsTwoBytes s.asleep
  pub asleep_ascend : IsStrictlyIncreasing (firsts s.asleep)
  pub arrays : FitsTwoBytes s.arrays
  pub each_array : AllByRecursion IsSavableArray s.arrays
  pub devices : FitsTwoBytes s.devices
  pub each_device : AllByRecursion IsSavableDevice s.devices
  pub stacks : FitsTwoBytes s.stacks
  pub each_stack : AllByRecursion IsSavableStack s.stacks
