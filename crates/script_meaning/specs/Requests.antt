-- What a running body may see and change, what it comes to next, and what is answered at once.
use Rattle.std.specs.Prelude.{ℕ, ◌==◌, Bool, true, false, not, ◌&&◌, if◌then◌else◌, min, ℤ, pos, int_lt, List, [], ◌∷◌, ◌++◌, map, Option, Some, None, slice_get, slice_index_or, slice_set}
use Rattle.std.specs.Int.RustNames.{unsigned_abs}
use Rattle.std.specs.Ordering.{int_eq}
use Rattle.core_tree.specs.declared.core_type.CoreType.{CoreType}
use Rattle.core_tree.specs.declared.core_type.CoreType.TheVariants as kinds
use Rattle.core_tree.specs.declared.expression.FunctionPlace.{FunctionPlace}
use Rattle.core_tree.specs.declared.scene.BoundNative.{BoundNative}
use Rattle.core_tree.specs.declared.scene_tree.Binding.{Binding}
use Rattle.core_tree.specs.declared.scene_tree.Binding.TheVariants as bindings
use Rattle.core_tree.specs.declared.value.Value.{Value}
use Rattle.core_tree.specs.declared.value.Value.TheVariants as values
use Rattle.core_tree.specs.Device.{DeviceState, device_at, device_step}
use Rattle.core_tree.specs.Outlines.{ScriptShape, FunctionShape}
use Rattle.papy_base.specs.declared.faults.StackFault.{StackFault}
use Rattle.papy_base.specs.declared.faults.StackFault.TheVariants as faults
use Rattle.script_meaning.specs.Values.{number_of}
use Rattle.script_meaning.specs.World.{Variables, ArrayState, Place, Line, Traced, Faulted}

-- what a body may read and write: the variables and the state of its own instance, the arrays, the
-- devices, and the lines printed
pub record Sight : Type 0 where
  pub variables : Variables
  pub state : List ℕ
  pub arrays : List ArrayState
  pub devices : List DeviceState
  pub output : List Line

-- what a body may read: its stack, its instance, the outline, the script and name of each instance, what
-- natives do, and whether its stack may have one more frame
pub record Setting : Type 0 where
  pub stack : ℕ
  pub self : Option ℕ
  pub outline : List ScriptShape
  pub instances : List (ℕ × List ℕ)
  pub natives : List BoundNative
  pub has_room : Bool

-- what a body comes to next. A target is an instance. `otherwise` is the default of the type of the result
pub data Request : Type 0 where
  Method : (target : ℕ) (name : List ℕ) (arguments : List Value) (otherwise : Value) → Request
  -- from the parent of this script
  ParentMethod : (script : ℕ) (name : List ℕ) (arguments : List Value) (otherwise : Value) → Request
  -- a Global function with a body, from this script
  GlobalFunction : (script : ℕ) (name : List ℕ) (arguments : List Value) (otherwise : Value) → Request
  GlobalNative : (at : FunctionPlace) (arguments : List Value) → Request
  Get : (target : ℕ) (name : List ℕ) (otherwise : Value) → Request
  Set : (target : ℕ) (name : List ℕ) (value : Value) → Request
  LoopPass : Request
  Return : (value : Value) → Request

-- what a body asks for: a request, or one whose target is None, for which a fault is printed and another
-- value is given
pub data Question : Type 0 where
  Asks : (request : Request) → Question
  AsksNone : (fault : StackFault) (otherwise : Value) → Question

abbrev pub method_of : Option ℕ → List ℕ → List Value → Value → Question
method_of None name arguments otherwise = AsksNone faults.NoneCall otherwise
method_of (Some target) name arguments otherwise = Asks (Method target name arguments otherwise)

abbrev pub get_of : Option ℕ → List ℕ → Value → Question
get_of None name otherwise = AsksNone faults.NoneProperty otherwise
get_of (Some target) name otherwise = Asks (Get target name otherwise)

abbrev pub set_of : Option ℕ → List ℕ → Value → Question
set_of None name value = AsksNone faults.NoneProperty values.NoneValue
set_of (Some target) name value = Asks (Set target name value)

-- a question is answered at once, or it is an act
pub data Answer : Type 0 where
  Reply : (value : Value) (sight : Sight) → Answer
  Act : (request : Request) → Answer

-- ---- lines
abbrev pub with_line : Sight → Line → Sight
with_line sight line = record sight { output = sight.output ++ line ∷ [] }

abbrev pub faulted : Setting → Place → StackFault → Sight → Sight
faulted setting at fault sight = with_line sight (Faulted setting.stack at fault)

abbrev pub faulted_where : Setting → Place → Option StackFault → Sight → Sight
faulted_where setting at None sight = sight
faulted_where setting at (Some fault) sight = faulted setting at fault sight

-- ---- natives
abbrev pub binding_in : List BoundNative → FunctionPlace → Option Binding
binding_in [] at = None
binding_in (first ∷ rest) at =
    if (first.script == at.script) && (first.function == at.place) then Some first.binding else binding_in rest at

abbrev pub result_in : Option FunctionShape → Option CoreType
result_in None = None
result_in (Some function) = function.result

abbrev pub functions_in : Option ScriptShape → List FunctionShape
functions_in None = []
functions_in (Some script) = script.functions

-- the type of a function's result
abbrev pub result_of : List ScriptShape → FunctionPlace → Option CoreType
result_of outline at = result_in (slice_get (functions_in (slice_get outline at.script)) at.place)

abbrev pub is_prompt : Option Binding → Bool
is_prompt (Some bindings.PromptTrace) = true
is_prompt (Some (bindings.PromptDevice device)) = true
is_prompt _ = false

abbrev pub first_argument : List Value → Value
first_argument arguments = slice_index_or arguments 0 values.NoneValue

abbrev pub latency_limit : ℕ
latency_limit = 1000000

-- for how many turns a stack sleeps after a native that isn't prompt
abbrev pub latency_of : Option Binding → List Value → ℕ
latency_of (Some bindings.Sleep) arguments =
    if int_lt (number_of (first_argument arguments)) (pos 0) then 0 else min (unsigned_abs (number_of (first_argument arguments))) latency_limit
latency_of (Some (bindings.Trace latency)) arguments = latency
latency_of (Some (bindings.Device device latency)) arguments = latency
latency_of _ arguments = 0

-- a device's reply as a value of the native's result type
abbrev pub reply_as : Option CoreType → ℤ → Value
reply_as None reply = values.NoneValue
reply_as (Some kinds.Bool) reply = values.Bool (not (int_eq reply (pos 0)))
reply_as (Some _) reply = values.Int reply

abbrev pub stepped : Sight → ℕ → ℤ × DeviceState → Sight
stepped sight device step = record sight { devices = slice_set sight.devices device step.1 }

-- the line of a trace, whose argument is a text
abbrev pub traced : Setting → Value → Sight → Sight
traced setting (values.Text text) sight = with_line sight (Traced setting.stack text)
traced setting _ sight = sight

-- a native is performed: its reply, and what it changed
abbrev pub performed : Setting → Option Binding → Option CoreType → List Value → Sight → Value × Sight
performed setting (Some (bindings.Trace latency)) result arguments sight =
    (values.NoneValue, traced setting (first_argument arguments) sight)
performed setting (Some bindings.PromptTrace) result arguments sight =
    (values.NoneValue, traced setting (first_argument arguments) sight)
performed setting (Some (bindings.Device device latency)) result arguments sight =
    let step = device_step (device_at sight.devices device) (map number_of arguments) in
    (reply_as result step.0, stepped sight device step)
performed setting (Some (bindings.PromptDevice device)) result arguments sight =
    let step = device_step (device_at sight.devices device) (map number_of arguments) in
    (reply_as result step.0, stepped sight device step)
performed setting _ result arguments sight = (values.NoneValue, sight)

abbrev pub performed_at : Setting → FunctionPlace → List Value → Sight → Value × Sight
performed_at setting at arguments sight =
    performed setting (binding_in setting.natives at) (result_of setting.outline at) arguments sight

-- ---- what is answered at once
-- a call that needs a frame
abbrev pub framed : Setting → Place → Request → Value → Sight → Answer
framed setting at request otherwise sight =
    if setting.has_room then Act request else Reply otherwise (faulted setting at faults.FrameLimit sight)

abbrev pub replied : Value × Sight → Answer
replied answer = Reply answer.0 answer.1

abbrev pub request_answer : Setting → Place → Request → Sight → Answer
request_answer setting at (Method target name arguments otherwise) sight =
    framed setting at (Method target name arguments otherwise) otherwise sight
request_answer setting at (ParentMethod script name arguments otherwise) sight =
    framed setting at (ParentMethod script name arguments otherwise) otherwise sight
request_answer setting at (GlobalFunction script name arguments otherwise) sight =
    framed setting at (GlobalFunction script name arguments otherwise) otherwise sight
request_answer setting at (GlobalNative native arguments) sight =
    if is_prompt (binding_in setting.natives native) then replied (performed_at setting native arguments sight) else Act (GlobalNative native arguments)
request_answer setting at (Get target name otherwise) sight = framed setting at (Get target name otherwise) otherwise sight
request_answer setting at (Set target name value) sight = framed setting at (Set target name value) values.NoneValue sight
request_answer setting at LoopPass sight = Act LoopPass
request_answer setting at (Return value) sight = Act (Return value)

-- the target is tested before the frame limit
abbrev pub answer : Setting → Place → Question → Sight → Answer
answer setting at (Asks request) sight = request_answer setting at request sight
answer setting at (AsksNone fault otherwise) sight = Reply otherwise (faulted setting at fault sight)
