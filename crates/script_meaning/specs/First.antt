-- The first world of a scene.
use Rattle.std.specs.Prelude.{ℕ, List, [], ◌∷◌, map, ℤ, Option, Some, None, slice_get}
use Rattle.core_tree.specs.declared.DeviceKind.{DeviceKind}
use Rattle.core_tree.specs.declared.value.Value.{Value}
use Rattle.core_tree.specs.Device.{DeviceState, load}
use Rattle.core_tree.specs.Outlines.{ScriptShape, name_or}
use Rattle.core_tree.specs.Scenes.{SceneShape, InstanceShape}
use Rattle.script_meaning.specs.Stacks.{State}
use Rattle.script_meaning.specs.Values.{lineage}
use Rattle.script_meaning.specs.World.{World, Instance, Variables, with_variable}

abbrev pub initial_in : Option ScriptShape → List Value
initial_in None = []
initial_in (Some script) = map (λ variable. variable.value) script.variables

-- the initial values of these scripts' variables
abbrev pub initial_variables : List ScriptShape → List ℕ → Variables
initial_variables outline scripts = map (λ script. (script, initial_in (slice_get outline script))) scripts

-- after the values of the scene were written, each after its script and the number of its variable
abbrev pub variables_set : List (ℕ × ℕ × Value) → Variables → Variables
variables_set [] variables = variables
variables_set (first ∷ rest) variables = variables_set rest (with_variable variables first.0 first.1 first.2)

abbrev pub auto_state_in : Option ScriptShape → Option (List ℕ)
auto_state_in None = None
auto_state_in (Some script) = script.auto_state

-- the Auto state of the first of these scripts that has one, else the empty state
abbrev pub start_state : List ScriptShape → List ℕ → List ℕ
start_state outline [] = []
start_state outline (script ∷ above) = name_or (auto_state_in (slice_get outline script)) (start_state outline above)

abbrev pub first_instance : List ScriptShape → InstanceShape → Instance
first_instance outline instance =
    let scripts = lineage outline (Some instance.script) in record {
      name = instance.name;
      script = instance.script;
      state = start_state outline scripts;
      variables = variables_set instance.set (initial_variables outline scripts);
    }

-- each device is loaded with its tape, or with no cells
abbrev pub loaded : List DeviceKind → List (List ℤ) → List DeviceState
loaded [] tapes = []
loaded (kind ∷ kinds) [] = load kind [] 0 ∷ loaded kinds []
loaded (kind ∷ kinds) (tape ∷ tapes) = load kind tape 0 ∷ loaded kinds tapes

abbrev pub first_world : List ScriptShape → SceneShape → List DeviceKind → World
first_world outline scene kinds =
    record { outline = outline; turn = 0; last = None; started = 0; instances = map (first_instance outline) scene.instances; owners = []; waiters = []; free = []; done = []; asleep = []; arrays = []; devices = loaded kinds scene.tapes; output = [] }

abbrev pub first_state : {Body : Type 0} → List ScriptShape → SceneShape → List DeviceKind → State Body
first_state outline scene kinds = record { world = first_world outline scene kinds; stacks = [] }
