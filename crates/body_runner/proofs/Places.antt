-- The functions of bodies, in the terms of the definitions.
use Rattle.std.proofs.Common.{◌≡◌, ℕ, List, [], map, Option, Some, None, refl, ap, ◌∙◌}
use Rattle.std.specs.Prelude.{slice_get}
use Rattle.std.specs.Option.{option_and_then, option_map}
use Rattle.std.proofs.lemmas.Option.{slice_get-map}
use Rattle.std.specs.declared.alloc.Global.{Global}
use Rattle.std.specs.declared.vec.Vec.{Vec}
use Rattle.code_meaning.specs.Code.{State}
use Rattle.code_meaning.specs.LookUp.{function_at, functions_in, properties_in, reader_in, states_in, writer_in}
use Rattle.loaded_code.specs.Plain as plain
use Rattle.loaded_code.specs.Plain.{access_of, function_where, property_of, script_of}
use Rattle.loaded_code.specs.declared.script.LoadedFunction.{LoadedFunction}
use Rattle.loaded_code.specs.declared.script.LoadedProperty.{LoadedProperty}
use Rattle.loaded_code.specs.declared.script.LoadedScript.{LoadedScript}
use Rattle.body_runner.specs.declared.frame.LoadedBody.{LoadedBody}
use Rattle.body_runner.specs.declared.frame.LoadedBody.TheVariants as bodies
use Rattle.body_runner.specs.Frames.{place_of}
use Rattle.body_runner.specs.Settings.{accessor_of, function_of}

-- ---- functions of states
abbrev state_of : List ℕ × Vec LoadedFunction Global → State
state_of state = record { name = state.0; functions = map plain.function_of state.1.items }

in_state : (o : Option (List ℕ × Vec LoadedFunction Global)) (n : ℕ) → slice_get (functions_in (option_map state_of o)) n ≡ option_map plain.function_of (option_and_then (λ state. slice_get state.1.items n) o)
in_state None n = refl
in_state (Some state) n = slice_get-map plain.function_of state.1.items n

in_states : (o : Option LoadedScript) (k n : ℕ) → slice_get (functions_in (slice_get (states_in (option_map script_of o)) k)) n ≡ option_map plain.function_of (option_and_then (λ script. option_and_then (λ state. slice_get state.1.items n) (slice_get script.states.items k)) o)
in_states None k n = refl
in_states (Some script) k n =
    ap (λ (found : Option State). slice_get (functions_in found) n) (slice_get-map state_of script.states.items k) ∙ in_state (slice_get script.states.items k) n

-- ---- functions of properties
function_there : (o : Option LoadedFunction) → function_where o ≡ option_map plain.function_of o
function_there None = refl
function_there (Some function) = refl

reads : (property : LoadedProperty) (variable : Option ℕ) → reader_in (access_of property variable) ≡ option_map plain.function_of (accessor_of variable property.read)
reads property None = function_there property.read
reads property (Some n) = refl

writes : (property : LoadedProperty) (variable : Option ℕ) → writer_in (access_of property variable) ≡ option_map plain.function_of (accessor_of variable property.write)
writes property None = function_there property.write
writes property (Some n) = refl

in_properties : (o : Option LoadedScript) (n : ℕ) → slice_get (properties_in (option_map script_of o)) n ≡ option_map property_of (option_and_then (λ script. slice_get script.properties.items n) o)
in_properties None n = refl
in_properties (Some script) n = slice_get-map property_of script.properties.items n

reader : (o : Option LoadedProperty) → option_and_then (λ found. reader_in found.access) (option_map property_of o) ≡ option_map plain.function_of (option_and_then (λ property. accessor_of property.variable property.read) o)
reader None = refl
reader (Some property) = reads property property.variable

writer : (o : Option LoadedProperty) → option_and_then (λ found. writer_in found.access) (option_map property_of o) ≡ option_map plain.function_of (option_and_then (λ property. accessor_of property.variable property.write) o)
writer None = refl
writer (Some property) = writes property property.variable

pub function_same : (scripts : List LoadedScript) (body : LoadedBody) → function_at (map script_of scripts) (place_of body) ≡ option_map plain.function_of (function_of scripts body)
function_same scripts (bodies.Method at) =
    ap (λ o. slice_get (functions_in (slice_get (states_in o) at.state)) at.place) (slice_get-map script_of scripts at.script) ∙ in_states (slice_get scripts at.script) at.state at.place
function_same scripts (bodies.Reader at) =
    ap (λ o. option_and_then (λ found. reader_in found.access) (slice_get (properties_in o) at.place)) (slice_get-map script_of scripts at.script) ∙ (ap (option_and_then (λ found. reader_in found.access)) (in_properties (slice_get scripts at.script) at.place) ∙ reader (option_and_then (λ script. slice_get script.properties.items at.place) (slice_get scripts at.script)))
function_same scripts (bodies.Writer at) =
    ap (λ o. option_and_then (λ found. writer_in found.access) (slice_get (properties_in o) at.place)) (slice_get-map script_of scripts at.script) ∙ (ap (option_and_then (λ found. writer_in found.access)) (in_properties (slice_get scripts at.script) at.place) ∙ writer (option_and_then (λ script. slice_get script.properties.items at.place) (slice_get scripts at.script)))
