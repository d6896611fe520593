-- The engine of loaded code, and the runs of loaded scripts.
use Rattle.std.specs.Prelude.{ℕ, List, map}
use Rattle.core_tree.specs.declared.DeviceKind.{DeviceKind}
use Rattle.core_tree.specs.Outlines.{ScriptShape}
use Rattle.core_tree.specs.Scenes.{SceneShape}
use Rattle.script_meaning.specs.First.{first_state}
use Rattle.script_meaning.specs.Stacks.{Engine, State}
use Rattle.script_meaning.specs.Turns.{states_from}
use Rattle.script_meaning.specs.World.{World}
use Rattle.code_meaning.specs.Code.{Script}
use Rattle.code_meaning.specs.Execution.{run_code}
use Rattle.code_meaning.specs.LookUp.{Body, enter_code}

abbrev pub code_engine : List ScriptShape → List Script → Engine Body
code_engine outline scripts = record { enter = enter_code outline scripts; run = run_code scripts }

-- the worlds of a run of at most so many turns, from the first one on, each with the stacks beside it
abbrev pub code_states : List ScriptShape → List Script → SceneShape → List DeviceKind → ℕ → List (State Body)
code_states outline scripts scene kinds turns =
    states_from scene (code_engine outline scripts) turns (first_state outline scene kinds)

abbrev pub code_run : List ScriptShape → List Script → SceneShape → List DeviceKind → ℕ → List World
code_run outline scripts scene kinds turns = map (λ state. state.world) (code_states outline scripts scene kinds turns)
