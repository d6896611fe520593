-- The instances of a world, by number: the text of each one's state, and the values of its variables.
use Rattle.std.specs.Prelude.{ℕ, ◌==◌, List, [], ◌∷◌, Option, Some, None, map, position, slice_get, slice_index_or, slice_set}
use Rattle.papy_base.specs.Lineage.{lineage}
use Rattle.core_tree.specs.Outlines.{parents_of, name_or}
use Rattle.core_tree.specs.declared.value.Value.{Value}
use Rattle.core_tree.specs.declared.value.Value.TheVariants.{NoneValue}
use Rattle.core_tree.specs.declared.outline.OutlineScript.{OutlineScript}
use Rattle.core_tree.specs.declared.scene.BoundInstance.{BoundInstance}

-- the values of the variables that one script declares, in the order of its file
pub record ScriptValues : Type 0 where
  pub script : ℕ
  pub values : List Value

-- the scripts stand upward, from the instance's own to the root
pub record InstanceState : Type 0 where
  pub state : List ℕ
  pub scripts : List ScriptValues

abbrev pub no_instance : InstanceState
no_instance = record { state = []; scripts = [] }

abbrev pub instance_at : List InstanceState → ℕ → InstanceState
instance_at instances number = slice_index_or instances number no_instance

abbrev pub no_script : ScriptValues
no_script = record { script = 0; values = [] }

-- ---- one variable
abbrev pub place_of : List ScriptValues → ℕ → Option ℕ
place_of scripts script = position (λ part. part.script == script) scripts

abbrev pub values_at : List ScriptValues → Option ℕ → List Value
values_at scripts None = []
values_at scripts (Some place) = (slice_index_or scripts place no_script).values

-- the values of the variables that a script declares
abbrev pub values_of : List ScriptValues → ℕ → List Value
values_of scripts script = values_at scripts (place_of scripts script)

abbrev pub variable_of : InstanceState → ℕ → ℕ → Value
variable_of instance script variable = slice_index_or (values_of instance.scripts script) variable NoneValue

-- a script's values after a write to one of its variables
abbrev pub values_with : ScriptValues → ℕ → Value → ScriptValues
values_with part variable value = record part { values = slice_set part.values variable value }

abbrev pub scripts_with_at : List ScriptValues → Option ℕ → ℕ → Value → List ScriptValues
scripts_with_at scripts None variable value = scripts
scripts_with_at scripts (Some place) variable value =
    slice_set scripts place (values_with (slice_index_or scripts place no_script) variable value)

abbrev pub scripts_with : List ScriptValues → ℕ → ℕ → Value → List ScriptValues
scripts_with scripts script variable value = scripts_with_at scripts (place_of scripts script) variable value

-- an instance after a write to one variable
abbrev pub instance_with : InstanceState → ℕ → ℕ → Value → InstanceState
instance_with instance script variable value =
    record instance { scripts = scripts_with instance.scripts script variable value }

-- ---- the start
abbrev pub initial_values_of : Option OutlineScript → List Value
initial_values_of None = []
initial_values_of (Some script) = map (λ variable. variable.value) script.variables.items

-- the initial values of the variables that a script declares
abbrev pub initial_values : List OutlineScript → ℕ → ScriptValues
initial_values scripts script = record { script = script; values = initial_values_of (slice_get scripts script) }

abbrev pub auto_state_of : Option OutlineScript → Option (List ℕ)
auto_state_of None = None
auto_state_of (Some script) = script.auto_state

-- the Auto state of the first of these scripts that has one, else the empty state
abbrev pub start_state : List OutlineScript → List ℕ → List ℕ
start_state scripts [] = []
start_state scripts (script ∷ above) = name_or (auto_state_of (slice_get scripts script)) (start_state scripts above)

-- after the values of a scene were written, each after its script and the number of its variable
abbrev pub scripts_after : List ScriptValues → List (ℕ × ℕ × Value) → List ScriptValues
scripts_after scripts [] = scripts
scripts_after scripts (entry ∷ entries) = scripts_after (scripts_with scripts entry.0 entry.1 entry.2) entries

-- an instance of a scene at the start
abbrev pub started : List OutlineScript → BoundInstance → InstanceState
started scripts instance =
    let above = lineage (parents_of scripts) (Some instance.script) in record {
      state = start_state scripts above;
      scripts = scripts_after (map (initial_values scripts) above) instance.set.items;
    }
