-- What natives do, in the terms of the definitions.
use Rattle.std.proofs.Common.{◌≡◌, ℕ, zero, suc, ◌≤◌, Bool, true, false, cond, List, [], ◌∷◌, ◌++◌, map, length, Option, Some, None, Result, Ok, Err, IfOk, OnOk, refl, sym, ap, subst, ◌∙◌, arith, append_assoc, append-nil, min}
use Rattle.std.specs.Prelude.{ℤ, pos, negsuc, int_lt, nat_lt, slice_get, slice_set}
use Rattle.std.specs.Int.RustNames.{unsigned_abs}
use Rattle.std.specs.Option.{option_and_then, option_map}
use Rattle.std.proofs.lemmas.Bool.{ltb-false, ltb-true}
use Rattle.std.proofs.lemmas.List.{set_past}
use Rattle.std.proofs.lemmas.Option.{slice_get-map}
use Rattle.core_tree.specs.Device.{DeviceState, device_at, device_step, no_device}
use Rattle.core_tree.specs.declared.core_type.CoreType.{CoreType}
use Rattle.core_tree.specs.declared.core_type.CoreType.TheVariants as kinds
use Rattle.core_tree.specs.declared.outline.OutlineFunction.{OutlineFunction}
use Rattle.core_tree.specs.declared.outline.OutlineScript.{OutlineScript}
use Rattle.core_tree.specs.Outlines.{function_shape, script_shape}
use Rattle.core_tree.specs.declared.scene_tree.Binding.{Binding}
use Rattle.core_tree.specs.declared.scene_tree.Binding.TheVariants as bindings
use Rattle.core_tree.specs.declared.value.Value.{Value}
use Rattle.core_tree.specs.declared.value.Value.TheVariants as values
use Rattle.papy_io.specs.Sink.{Appended}
use Rattle.script_meaning.specs.Report.{ended, line_text}
use Rattle.script_meaning.specs.Requests.{Sight, first_argument, functions_in, reply_as, result_in}
use Rattle.script_meaning.specs.Requests as meant
use Rattle.script_meaning.specs.Values as meaning
use Rattle.script_meaning.specs.World.{Line, Traced}
use Rattle.loaded_code.specs.declared.script.MethodPlace.{MethodPlace}
use Rattle.body_runner.specs.declared.body.Turn.{Turn}
use Rattle.body_runner.specs.Lines.{trace_line}
use Rattle.body_runner.specs.Settings.{binding_in}
use Rattle.body_runner.specs.Values.{number_in}
use Rattle.body_runner.proofs.Meaning.{number_same}
use Rattle.stack_machine.specs.Natives.{called_device, device_reply, devices_after, devices_called, first_number, is_prompt, latency_of, line_of, reply_called, reply_value, result_of, traced, traced_value, turns_asleep}
use Rattle.stack_machine.specs.Runs.{bytes_of, native_at, AreBound, Performs}

-- ---- prompt natives, and latencies
pub prompt_same : (b : Option Binding) → is_prompt b ≡ meant.is_prompt b
prompt_same None = refl
prompt_same (Some bindings.Sleep) = refl
prompt_same (Some (bindings.Trace n)) = refl
prompt_same (Some (bindings.Device d n)) = refl
prompt_same (Some bindings.PromptTrace) = refl
prompt_same (Some (bindings.PromptDevice d)) = refl

first_same : (arguments : List Value) → first_number arguments ≡ meaning.number_of (first_argument arguments)
first_same [] = refl
first_same (value ∷ rest) = number_same value

over : (n : ℕ) → nat_lt 0 (suc n) ≡ true
over n =
    elim (nat_lt 0 (suc n)) as (λ t. nat_lt 0 (suc n) ≡ t → t ≡ true) [
      | true ↦ λ e. refl
      | false ↦ λ e. absurd (let h = ltb-false 0 (suc n) e in omega (arith, h))
    ] refl

under : (n : ℕ) → nat_lt (suc n) 0 ≡ false
under n =
    elim (nat_lt (suc n) 0) as (λ t. nat_lt (suc n) 0 ≡ t → t ≡ false) [
      | true ↦ λ e. absurd (let h = ltb-true (suc n) 0 e in omega (arith, h))
      | false ↦ λ e. refl
    ] refl

asleep_same : (asked : ℤ) → turns_asleep asked ≡ cond (int_lt asked (pos 0)) 0 (min (unsigned_abs asked) 1000000)
asleep_same (pos zero) = refl
asleep_same (pos (suc n)) =
    ap (λ b. cond b (min (suc n) 1000000) 0) (over n) ∙ ap (λ b. cond b 0 (min (suc n) 1000000)) (sym (under n))
asleep_same (negsuc n) = refl

pub latency_same : (b : Option Binding) (arguments : List Value) → latency_of b arguments ≡ meant.latency_of b arguments
latency_same None arguments = refl
latency_same (Some bindings.Sleep) arguments =
    ap turns_asleep (first_same arguments) ∙ asleep_same (meaning.number_of (first_argument arguments))
latency_same (Some (bindings.Trace n)) arguments = refl
latency_same (Some (bindings.Device d n)) arguments = refl
latency_same (Some bindings.PromptTrace) arguments = refl
latency_same (Some (bindings.PromptDevice d)) arguments = refl

-- ---- results
function_result : (o : Option OutlineFunction) → option_and_then (λ function. function.result) o ≡ result_in (option_map function_shape o)
function_result None = refl
function_result (Some function) = refl

script_result : (o : Option OutlineScript) (n : ℕ) → option_and_then (λ script. option_and_then (λ function. function.result) (slice_get script.functions.items n)) o ≡ result_in (slice_get (functions_in (option_map script_shape o)) n)
script_result None n = refl
script_result (Some script) n =
    function_result (slice_get script.functions.items n) ∙ ap result_in (sym (slice_get-map function_shape script.functions.items n))

result_same : (scripts : List OutlineScript) (at : MethodPlace) → result_of scripts at ≡ meant.result_of (map script_shape scripts) (native_at at)
result_same scripts at =
    script_result (slice_get scripts at.script) at.place ∙ ap (λ o. result_in (slice_get (functions_in o) at.place)) (sym (slice_get-map script_shape scripts at.script))

reply_same : (kind : Option CoreType) (reply : ℤ) → reply_value kind reply ≡ reply_as kind reply
reply_same None reply = refl
reply_same (Some kinds.Int) reply = refl
reply_same (Some kinds.Bool) reply = refl
reply_same (Some kinds.Text) reply = refl
reply_same (Some (kinds.Script n)) reply = refl
reply_same (Some kinds.IntArray) reply = refl
reply_same (Some kinds.BoolArray) reply = refl
reply_same (Some kinds.TextArray) reply = refl
reply_same (Some (kinds.ScriptArray n)) reply = refl

-- ---- devices
numbers_same : (arguments : List Value) → map number_in arguments ≡ map meaning.number_of arguments
numbers_same [] = refl
numbers_same (value ∷ rest) =
    ap (λ n. n ∷ map number_in rest) (number_same value) ∙ ap (λ ns. meaning.number_of value ∷ ns) (numbers_same rest)

no_device_at : (devices : List DeviceState) (n : ℕ) → length devices ≤ n → device_at devices n ≡ no_device
no_device_at [] n h = refl
no_device_at (device ∷ rest) zero h = absurd (omega (arith, h))
no_device_at (device ∷ rest) (suc n) h = no_device_at rest n (omega (arith, h))

abbrev step_there : List DeviceState → ℕ → List Value → ℤ × DeviceState
step_there devices n arguments = device_step (device_at devices n) (map meaning.number_of arguments)

after_by : (there : Bool) (devices : List DeviceState) (n : ℕ) (arguments : List Value) → nat_lt n (length devices) ≡ there → cond there (slice_set devices n (device_step (device_at devices n) (map number_in arguments)).1) devices ≡ slice_set devices n (step_there devices n arguments).1
after_by true devices n arguments e =
    ap (λ ns. slice_set devices n (device_step (device_at devices n) ns).1) (numbers_same arguments)
after_by false devices n arguments e =
    sym (set_past devices n (step_there devices n arguments).1 (ltb-false n (length devices) e))

after_same : (devices : List DeviceState) (n : ℕ) (arguments : List Value) → devices_after devices n arguments ≡ slice_set devices n (step_there devices n arguments).1
after_same devices n arguments = after_by (nat_lt n (length devices)) devices n arguments refl

replied_by : (there : Bool) (devices : List DeviceState) (n : ℕ) (arguments : List Value) → nat_lt n (length devices) ≡ there → cond there (device_step (device_at devices n) (map number_in arguments)).0 (pos 0) ≡ (step_there devices n arguments).0
replied_by true devices n arguments e =
    ap (λ ns. (device_step (device_at devices n) ns).0) (numbers_same arguments)
replied_by false devices n arguments e =
    ap (λ d. (device_step d (map meaning.number_of arguments)).0) (sym (no_device_at devices n (ltb-false n (length devices) e)))

replied_same : (devices : List DeviceState) (n : ℕ) (arguments : List Value) → device_reply devices n arguments ≡ (step_there devices n arguments).0
replied_same devices n arguments = replied_by (nat_lt n (length devices)) devices n arguments refl

-- ---- lines
abbrev value_lines : ℕ → Value → List Line
value_lines stack values.NoneValue = []
value_lines stack (values.Int n) = []
value_lines stack (values.Bool b) = []
value_lines stack (values.Text text) = Traced stack text ∷ []
value_lines stack (values.Instance n) = []
value_lines stack (values.Array n) = []

abbrev lines_traced : ℕ → List Value → List Line
lines_traced stack [] = []
lines_traced stack (value ∷ rest) = value_lines stack value

text_bytes : (stack : ℕ) (text : List ℕ) → trace_line stack text ≡ bytes_of (Traced stack text ∷ [])
text_bytes stack text = sym (append-nil (ended (line_text (Traced stack text))) ∙ simp append_assoc refl)

value_bytes : (stack : ℕ) (value : Value) → traced_value stack value ≡ bytes_of (value_lines stack value)
value_bytes stack values.NoneValue = refl
value_bytes stack (values.Int n) = refl
value_bytes stack (values.Bool b) = refl
value_bytes stack (values.Text text) = text_bytes stack text
value_bytes stack (values.Instance n) = refl
value_bytes stack (values.Array n) = refl

traced_bytes : (stack : ℕ) (arguments : List Value) → traced stack arguments ≡ bytes_of (lines_traced stack arguments)
traced_bytes stack [] = refl
traced_bytes stack (value ∷ rest) = value_bytes stack value

no_line : (sight : Sight) → sight ≡ record sight { output = sight.output ++ [] }
no_line sight = ap (λ output. record sight { output = output }) (sym (append-nil sight.output))

value_traced : (setting : meant.Setting) (value : Value) (sight : Sight) → meant.traced setting value sight ≡ record sight { output = sight.output ++ value_lines setting.stack value }
value_traced setting values.NoneValue sight = no_line sight
value_traced setting (values.Int n) sight = no_line sight
value_traced setting (values.Bool b) sight = no_line sight
value_traced setting (values.Text text) sight = refl
value_traced setting (values.Instance n) sight = no_line sight
value_traced setting (values.Array n) sight = no_line sight

traced_same : (setting : meant.Setting) (arguments : List Value) (sight : Sight) → meant.traced setting (first_argument arguments) sight ≡ record sight { output = sight.output ++ lines_traced setting.stack arguments }
traced_same setting [] sight = no_line sight
traced_same setting (value ∷ rest) sight = value_traced setting value sight

-- ---- natives by their bindings
abbrev lines_by : Option Binding → ℕ → List Value → List Line
lines_by None stack arguments = []
lines_by (Some bindings.Sleep) stack arguments = []
lines_by (Some (bindings.Trace n)) stack arguments = lines_traced stack arguments
lines_by (Some (bindings.Device d n)) stack arguments = []
lines_by (Some bindings.PromptTrace) stack arguments = lines_traced stack arguments
lines_by (Some (bindings.PromptDevice d)) stack arguments = []

bytes_same : (b : Option Binding) (stack : ℕ) (arguments : List Value) → line_of b stack arguments ≡ bytes_of (lines_by b stack arguments)
bytes_same None stack arguments = refl
bytes_same (Some bindings.Sleep) stack arguments = refl
bytes_same (Some (bindings.Trace n)) stack arguments = traced_bytes stack arguments
bytes_same (Some (bindings.Device d n)) stack arguments = refl
bytes_same (Some bindings.PromptTrace) stack arguments = traced_bytes stack arguments
bytes_same (Some (bindings.PromptDevice d)) stack arguments = refl

-- what a native leaves, by its binding
abbrev leaves_by : Option Binding → meant.Setting → Option CoreType → List Value → List DeviceState → Sight → Value × Sight
leaves_by b setting kind arguments devices sight =
    (reply_called (called_device b) devices arguments kind, record sight { devices = devices_called (called_device b) devices arguments; output = sight.output ++ lines_by b setting.stack arguments })

device_same : (device : ℕ) (kind : Option CoreType) (arguments : List Value) (devices : List DeviceState) (sight : Sight) → ◌≡◌ {A = Value × Sight} (reply_as kind (step_there devices device arguments).0, record sight { devices = slice_set devices device (step_there devices device arguments).1 }) (reply_value kind (device_reply devices device arguments), record sight { devices = devices_after devices device arguments; output = sight.output ++ [] })
device_same device kind arguments devices sight =
    ap (λ (v : Value). (v, record sight { devices = slice_set devices device (step_there devices device arguments).1 })) (ap (reply_as kind) (sym (replied_same devices device arguments)) ∙ sym (reply_same kind (device_reply devices device arguments)))
    ∙ (ap (λ ds. (reply_value kind (device_reply devices device arguments), record sight { devices = ds })) (sym (after_same devices device arguments))
    ∙ ap (λ output. (reply_value kind (device_reply devices device arguments), record sight { devices = devices_after devices device arguments; output = output })) (sym (append-nil sight.output)))

abbrev nothing_done : (devices : List DeviceState) (sight : Sight) → ◌≡◌ {A = Value × Sight} (values.NoneValue, record sight { devices = devices }) (values.NoneValue, record sight { devices = devices; output = sight.output ++ [] })
nothing_done devices sight = ap (λ (s : Sight). (values.NoneValue, s)) (no_line (record sight { devices = devices }))

performed_same : (b : Option Binding) (setting : meant.Setting) (kind : Option CoreType) (arguments : List Value) (devices : List DeviceState) (sight : Sight) → meant.performed setting b kind arguments (record sight { devices = devices }) ≡ leaves_by b setting kind arguments devices sight
performed_same None setting kind arguments devices sight = nothing_done devices sight
performed_same (Some bindings.Sleep) setting kind arguments devices sight = nothing_done devices sight
performed_same (Some (bindings.Trace n)) setting kind arguments devices sight =
    ap (λ (s : Sight). (values.NoneValue, s)) (traced_same setting arguments (record sight { devices = devices }))
performed_same (Some (bindings.Device d n)) setting kind arguments devices sight = device_same d kind arguments devices sight
performed_same (Some bindings.PromptTrace) setting kind arguments devices sight =
    ap (λ (s : Sight). (values.NoneValue, s)) (traced_same setting arguments (record sight { devices = devices }))
performed_same (Some (bindings.PromptDevice d)) setting kind arguments devices sight = device_same d kind arguments devices sight

performs : (turn : Turn) (at : MethodPlace) (b : Option Binding) (arguments : List Value) (reply : Value) (devices devices' : List DeviceState) (before now : Option (List ℕ)) → AreBound turn.setting.now → b ≡ binding_in turn.setting.now.bindings.natives.items at → Appended (line_of b turn.stack arguments) before now → devices' ≡ devices_called (called_device b) devices arguments → reply ≡ reply_called (called_device b) devices arguments (result_of turn.setting.now.loaded.outline at) → Performs turn at arguments reply devices devices' before now
performs turn at b arguments reply devices devices' before now bound is wrote d r =
    let kind = result_of turn.setting.now.loaded.outline at in
    record {
      lines = lines_by b turn.stack arguments;
      written = subst (λ bs. Appended bs before now) (bytes_same b turn.stack arguments) wrote;
      performed = λ setting sight.
          let acting : meant.Setting = record setting { stack = turn.stack; outline = map script_shape turn.setting.now.loaded.outline; natives = turn.setting.now.scene.natives.items } in
          ap (λ (o : Option Binding). meant.performed acting o (meant.result_of (map script_shape turn.setting.now.loaded.outline) (native_at at)) arguments (record sight { devices = devices })) (sym (is ∙ bound at))
          ∙ (ap (λ (k : Option CoreType). meant.performed acting b k arguments (record sight { devices = devices })) (sym (result_same turn.setting.now.loaded.outline at))
          ∙ (performed_same b acting kind arguments devices sight
          ∙ (ap (λ (v : Value). (v, record sight { devices = devices_called (called_device b) devices arguments; output = sight.output ++ lines_by b turn.stack arguments })) (sym r)
          ∙ ap (λ ds. (reply, record sight { devices = ds; output = sight.output ++ lines_by b turn.stack arguments })) (sym d))));
    }

pub performs_on : {E : Type 0} (turn : Turn) (at : MethodPlace) (b : Option Binding) (arguments : List Value) (result : Result Value E) (devices devices' : List DeviceState) (before now : Option (List ℕ)) → AreBound turn.setting.now → b ≡ binding_in turn.setting.now.bindings.natives.items at → OnOk result (Appended (line_of b turn.stack arguments) before now) → OnOk result (devices' ≡ devices_called (called_device b) devices arguments) → IfOk result (λ reply. reply ≡ reply_called (called_device b) devices arguments (result_of turn.setting.now.loaded.outline at)) → IfOk result (λ reply. Performs turn at arguments reply devices devices' before now)
performs_on turn at b arguments (Ok reply) devices devices' before now bound is wrote d r =
    performs turn at b arguments reply devices devices' before now bound is wrote d r
performs_on turn at b arguments (Err e) devices devices' before now bound is wrote d r = tt
