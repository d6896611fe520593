-- What native functions do to devices and to the report, and what they give.
use Rattle.std.specs.Prelude.{ℕ, Bool, true, false, List, [], ◌∷◌, Option, None, Some, ℤ, pos, length, map, min, nat_lt, int_lt, not, slice_get, slice_set, if◌then◌else◌}
use Rattle.std.specs.Option.{option_and_then}
use Rattle.std.specs.Int.RustNames.{unsigned_abs}
use Rattle.std.specs.Ordering.{int_eq}
use Rattle.core_tree.specs.Device.{DeviceState, device_at, device_step}
use Rattle.core_tree.specs.declared.core_type.CoreType.{CoreType}
use Rattle.core_tree.specs.declared.core_type.CoreType.TheVariants as kinds
use Rattle.core_tree.specs.declared.outline.OutlineScript.{OutlineScript}
use Rattle.core_tree.specs.declared.scene_tree.Binding.{Binding}
use Rattle.core_tree.specs.declared.scene_tree.Binding.TheVariants as bindings
use Rattle.core_tree.specs.declared.value.Value.{Value}
use Rattle.core_tree.specs.declared.value.Value.TheVariants as values
use Rattle.loaded_code.specs.declared.script.MethodPlace.{MethodPlace}
use Rattle.body_runner.specs.Lines.{trace_line}
use Rattle.body_runner.specs.Values.{number_in}

-- ---- sleep
abbrev pub first_number : List Value → ℤ
first_number [] = pos 0
first_number (value ∷ rest) = number_in value

-- the turns of a sleep: its argument, cut to 0 and 1,000,000
abbrev pub turns_asleep : ℤ → ℕ
turns_asleep asked = if int_lt (pos 0) asked then min (unsigned_abs asked) 1000000 else 0

-- ---- trace
abbrev pub traced_value : ℕ → Value → List ℕ
traced_value stack (values.Text text) = trace_line stack text
traced_value stack _ = []

-- the line of a trace by a stack
abbrev pub traced : ℕ → List Value → List ℕ
traced stack [] = []
traced stack (value ∷ rest) = traced_value stack value

-- ---- devices
-- the devices after a call of the one of this number
abbrev pub devices_after : List DeviceState → ℕ → List Value → List DeviceState
devices_after devices number arguments =
    if nat_lt number (length devices)
    then slice_set devices number (device_step (device_at devices number) (map number_in arguments)).1
    else devices

-- its reply, 0 where it isn't there
abbrev pub device_reply : List DeviceState → ℕ → List Value → ℤ
device_reply devices number arguments =
    if nat_lt number (length devices)
    then (device_step (device_at devices number) (map number_in arguments)).0
    else pos 0

abbrev pub typed_reply : CoreType → ℤ → Value
typed_reply kinds.Bool reply = values.Bool (not (int_eq reply (pos 0)))
typed_reply _ reply = values.Int reply

-- a reply as a value of the native's result type
abbrev pub reply_value : Option CoreType → ℤ → Value
reply_value None reply = values.NoneValue
reply_value (Some kind) reply = typed_reply kind reply

-- ---- natives by their bindings
-- what is written
abbrev pub line_of : Option Binding → ℕ → List Value → List ℕ
line_of None stack arguments = []
line_of (Some bindings.Sleep) stack arguments = []
line_of (Some (bindings.Trace latency)) stack arguments = traced stack arguments
line_of (Some (bindings.Device device latency)) stack arguments = []
line_of (Some bindings.PromptTrace) stack arguments = traced stack arguments
line_of (Some (bindings.PromptDevice device)) stack arguments = []

-- which device is called
abbrev pub called_device : Option Binding → Option ℕ
called_device None = None
called_device (Some bindings.Sleep) = None
called_device (Some (bindings.Trace latency)) = None
called_device (Some (bindings.Device device latency)) = Some device
called_device (Some bindings.PromptTrace) = None
called_device (Some (bindings.PromptDevice device)) = Some device

abbrev pub devices_called : Option ℕ → List DeviceState → List Value → List DeviceState
devices_called None devices arguments = devices
devices_called (Some device) devices arguments = devices_after devices device arguments

abbrev pub reply_called : Option ℕ → List DeviceState → List Value → Option CoreType → Value
reply_called None devices arguments kind = values.NoneValue
reply_called (Some device) devices arguments kind = reply_value kind (device_reply devices device arguments)

abbrev pub is_prompt : Option Binding → Bool
is_prompt None = false
is_prompt (Some bindings.Sleep) = false
is_prompt (Some (bindings.Trace latency)) = false
is_prompt (Some (bindings.Device device latency)) = false
is_prompt (Some bindings.PromptTrace) = true
is_prompt (Some (bindings.PromptDevice device)) = true

-- for how many turns the stack sleeps where it isn't
abbrev pub latency_of : Option Binding → List Value → ℕ
latency_of None arguments = 0
latency_of (Some bindings.Sleep) arguments = turns_asleep (first_number arguments)
latency_of (Some (bindings.Trace latency)) arguments = latency
latency_of (Some (bindings.Device device latency)) arguments = latency
latency_of (Some bindings.PromptTrace) arguments = 0
latency_of (Some (bindings.PromptDevice device)) arguments = 0

-- the type of its result, as the outline tells it
abbrev pub result_of : List OutlineScript → MethodPlace → Option CoreType
result_of scripts at =
    option_and_then (λ script. option_and_then (λ function. function.result) (slice_get script.functions.items at.place)) (slice_get scripts at.script)
