-- Which scene a JSON value is, by the forms of its parts.
use Rattle.std.specs.Prelude.{ℕ, ◌-◌, ◌^◌, ◌&&◌, ◌==◌, ℤ, pos, Bool, true, false, List, [], ◌∷◌, length, bytes_eq, codes, nat_le, int_le, neg_ℤ, if◌then◌else◌, Option, Some, None, option_and_then}
use Rattle.papy_base.specs.InstanceName.{is_instance_name}
use Rattle.core_tree.specs.Scenes.{OrderShape, Round, Listed}
use Rattle.core_tree.specs.declared.scene_tree.Binding.{Binding}
use Rattle.core_tree.specs.declared.scene_tree.Binding.TheVariants as bindings
use Rattle.core_tree.specs.declared.scene_tree.SceneValue.{SceneValue}
use Rattle.core_tree.specs.declared.scene_tree.SceneValue.TheVariants as values
use Rattle.serde_json.specs.Data.{Num, unsigned, negative, float, Data, null, boolean, number, string, array, object}
use Rattle.serde_json.specs.Find.{as_bool, as_integer, as_number, as_str, as_u64, get}
use Rattle.scene_reader.specs.Default.{CallPlan, InstancePlan}
use Rattle.scene_reader.specs.Plan.{ScenePlan}
use Rattle.scene_reader.specs.Reading.{Reading, Misshapen, Excessive, Fits, both, closed, entries, limited, list, needed, optional, reading_map, within}
use Rattle.scene_reader.specs.declared.parts.Version.{Version}
use Rattle.scene_reader.specs.declared.parts.Version.TheVariants.{One, Two}

-- ---- numbers and texts

abbrev pub whole_from : ℤ → ℤ → Option ℤ → Reading ℤ
whole_from least most None = Misshapen
whole_from least most (Some n) = within (int_le least n && int_le n most) n

-- a whole number of these bounds
abbrev pub whole : ℤ → ℤ → Data → Reading ℤ
whole least most value = whole_from least most (option_and_then as_integer (as_number value))

abbrev pub count_from : ℕ → ℕ → Option Num → Reading ℕ
count_from least most None = Misshapen
count_from least most (Some (unsigned n)) = within (nat_le least n && nat_le n most) n
count_from least most (Some (negative z)) = Excessive
count_from least most (Some (float x)) = Misshapen

-- the same of bounds that aren't below 0
abbrev pub count : ℕ → ℕ → Data → Reading ℕ
count least most value = count_from least most (as_number value)

-- a number of 32 bits with sign
abbrev pub int : Data → Reading ℤ
int = whole (neg_ℤ (pos (2 ^ 31))) (pos (2 ^ 31 - 1))

abbrev pub turn : Data → Reading ℕ
turn = count 0 1000000

-- the number of a device or of a stack
abbrev pub place : Data → Reading ℕ
place = count 0 65535

abbrev pub short : List ℕ → Reading (List ℕ)
short text = within (nat_le (length text) 1024) text

abbrev pub text_from : Option (List ℕ) → Reading (List ℕ)
text_from None = Misshapen
text_from (Some text) = short text

abbrev pub text : Data → Reading (List ℕ)
text value = text_from (as_str value)

-- ---- values, instances and calls

abbrev pub scene_value : Data → Reading SceneValue
scene_value null = Fits values.NoneValue
scene_value (boolean truth) = Fits (values.Bool truth)
scene_value (number n) = reading_map values.Int (int (number n))
scene_value (string s) = reading_map values.Text (short s)
scene_value (array items) = Misshapen
scene_value (object members) = closed (codes "instance" ∷ []) (λ value. reading_map values.Instance (needed (codes "instance") text value)) (object members)

abbrev pub name_from : Option (List ℕ) → Reading (List ℕ)
name_from None = Misshapen
name_from (Some name) = if is_instance_name name then Fits name else Misshapen

abbrev pub instance_name : Data → Reading (List ℕ)
instance_name value = name_from (as_str value)

abbrev pub instance_of : List ℕ × (List ℕ × List (List ℕ × SceneValue)) → InstancePlan
instance_of p = record { name = p.0; script = p.1.0; set = p.1.1 }

abbrev pub instance : Data → Reading InstancePlan
instance = closed (codes "name" ∷ codes "script" ∷ codes "set" ∷ []) (λ value.
    reading_map instance_of
    (both (needed (codes "name") instance_name value)
    (both (needed (codes "script") text value)
    (optional (codes "set") [] (entries short scene_value) value))))

abbrev pub call_of : ℕ × (List ℕ × (List ℕ × List SceneValue)) → CallPlan
call_of p = record { turn = p.0; instance = p.1.0; function = p.1.1.0; arguments = p.1.1.1 }

abbrev pub call : Data → Reading CallPlan
call = closed (codes "turn" ∷ codes "instance" ∷ codes "function" ∷ codes "arguments" ∷ []) (λ value.
    reading_map call_of
    (both (needed (codes "turn") turn value)
    (both (needed (codes "instance") text value)
    (both (needed (codes "function") text value)
    (optional (codes "arguments") [] (list scene_value) value)))))

-- ---- natives

abbrev pub truth_from : Option Bool → Reading Bool
truth_from None = Misshapen
truth_from (Some truth) = Fits truth

-- whether a native is prompt: the key belongs to version 2
abbrev pub prompt_from : Version → Option Data → Reading Bool
prompt_from version None = Fits false
prompt_from One (Some value) = Misshapen
prompt_from Two (Some value) = truth_from (as_bool value)

-- the latency, of which a prompt native has none
abbrev pub latency_from : Option Data → Reading Bool → Reading (Option ℕ)
latency_from latency Misshapen = Misshapen
latency_from latency Excessive = Excessive
latency_from None (Fits true) = Fits None
latency_from (Some value) (Fits true) = Misshapen
latency_from None (Fits false) = Fits (Some 0)
latency_from (Some value) (Fits false) = reading_map Some (turn value)

abbrev pub latency : Version → Data → Reading (Option ℕ)
latency version value = latency_from (get (codes "latency") value) (prompt_from version (get (codes "prompt") value))

abbrev pub tracing : Option ℕ → Binding
tracing None = bindings.PromptTrace
tracing (Some latency) = bindings.Trace latency

abbrev pub calling : ℕ → Option ℕ → Binding
calling device None = bindings.PromptDevice device
calling device (Some latency) = bindings.Device device latency

abbrev pub sleep : Data → Reading Binding
sleep = closed (codes "kind" ∷ []) (λ value. Fits bindings.Sleep)

abbrev pub trace : Version → Data → Reading Binding
trace version = closed (codes "kind" ∷ codes "latency" ∷ codes "prompt" ∷ []) (λ value. reading_map tracing (latency version value))

abbrev pub device : Version → Data → Reading Binding
device version = closed (codes "kind" ∷ codes "device" ∷ codes "latency" ∷ codes "prompt" ∷ []) (λ value.
    reading_map (λ p. calling p.0 p.1) (both (needed (codes "device") place value) (latency version value)))

abbrev pub binding_of : Version → Option (List ℕ) → Data → Reading Binding
binding_of version None value = Misshapen
binding_of version (Some kind) value =
    if bytes_eq kind (codes "sleep") then sleep value
    else (if bytes_eq kind (codes "trace") then trace version value else (if bytes_eq kind (codes "device") then device version value else Misshapen))

abbrev pub binding : Version → Data → Reading Binding
binding version value = binding_of version (option_and_then as_str (get (codes "kind") value)) value

-- ---- the scene

abbrev pub tape : Data → Reading (List ℤ)
tape value = limited (λ cells. nat_le (length cells) 100000) (list int value)

abbrev pub order_from : Option (List ℕ) → Data → Reading OrderShape
order_from None value = reading_map Listed (limited (λ stacks. nat_le (length stacks) 1000000) (list place value))
order_from (Some text) value = if bytes_eq text (codes "round") then Fits Round else Misshapen

abbrev pub order : Data → Reading OrderShape
order value = order_from (as_str value) value

-- the key belongs to version 2
abbrev pub quantum_from : Version → Option Data → Reading ℕ
quantum_from version None = Fits 1
quantum_from One (Some value) = Misshapen
quantum_from Two (Some value) = count 1 1000 value

abbrev pub version_from : Option ℕ → Option Version
version_from None = None
version_from (Some n) = if n == 1 then Some One else (if n == 2 then Some Two else None)

abbrev pub version_in : Data → Option Version
version_in value = version_from (option_and_then as_u64 (option_and_then as_number (get (codes "version") value)))

abbrev pub keys : List (List ℕ)
keys = codes "version" ∷ codes "instances" ∷ codes "calls" ∷ codes "order" ∷ codes "turns" ∷ codes "natives" ∷ codes "tapes" ∷ codes "quantum" ∷ []

abbrev pub instances : Data → Reading (List InstancePlan)
instances value = limited (λ all. nat_le (length all) 256) (list instance value)

abbrev pub calls : Data → Reading (List CallPlan)
calls value = limited (λ all. nat_le (length all) 1024) (list call value)

abbrev pub plan_of : ℕ × (ℕ × (OrderShape × (List InstancePlan × (List CallPlan × (List (List ℕ × Binding) × List (List ℤ)))))) → ScenePlan
plan_of p =
    record { quantum = p.0; turns = p.1.0; order = p.1.1.0; instances = p.1.1.1.0; calls = p.1.1.1.1.0; natives = p.1.1.1.1.1.0; tapes = p.1.1.1.1.1.1 }

abbrev pub parts : Version → Data → Reading ScenePlan
parts version value =
    reading_map plan_of
    (both (quantum_from version (get (codes "quantum") value))
    (both (needed (codes "turns") turn value)
    (both (needed (codes "order") order value)
    (both (needed (codes "instances") instances value)
    (both (needed (codes "calls") calls value)
    (both (optional (codes "natives") [] (entries short (binding version)) value)
    (optional (codes "tapes") [] (list tape) value)))))))

abbrev pub of_version : Option Version → Data → Reading ScenePlan
of_version None value = Misshapen
of_version (Some version) value = parts version value

-- the scene that a JSON value is
abbrev pub scene : Data → Reading ScenePlan
scene = closed keys (λ value. of_version (version_in value) value)
