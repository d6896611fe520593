-- The laws of every engine's runs, for the engine of loaded code.
use Rattle.std.proofs.Common.{ℕ, List, [], ◌∷◌}
use Rattle.std.specs.List.{AllByRecursion}
use Rattle.core_tree.specs.declared.DeviceKind.{DeviceKind}
use Rattle.core_tree.specs.Outlines.{ScriptShape}
use Rattle.core_tree.specs.Scenes.{SceneShape}
use Rattle.run_laws.proofs.Runs.{first_exclusive, states_exclusive, some_ready}
use Rattle.run_laws.specs.Exclusive.{Exclusive}
use Rattle.script_meaning.specs.First.{first_state}
use Rattle.script_meaning.specs.Stacks.{State}
use Rattle.code_meaning.specs.Code.{Script}
use Rattle.code_meaning.specs.Engine.{code_engine, code_states}
use Rattle.run_laws.specs.Exclusive.{GoesOn}
use Rattle.code_meaning.specs.LookUp.{Body}

pub run_exclusive : (outline : List ScriptShape) (scripts : List Script) (scene : SceneShape) (kinds : List DeviceKind) (turns : ℕ) → AllByRecursion Exclusive (code_states outline scripts scene kinds turns)
run_exclusive outline scripts scene kinds turns =
    states_exclusive scene (code_engine outline scripts) turns (first_state outline scene kinds) (first_exclusive outline scene kinds)

all_go_on : (states : List (State Body)) → AllByRecursion Exclusive states → AllByRecursion GoesOn states
all_go_on [] all = tt
all_go_on (state ∷ states) all =
    (λ k started not_done not_asleep. some_ready state k all.0 started not_done not_asleep, all_go_on states all.1)

pub run_goes_on : (outline : List ScriptShape) (scripts : List Script) (scene : SceneShape) (kinds : List DeviceKind) (turns : ℕ) → AllByRecursion GoesOn (code_states outline scripts scene kinds turns)
run_goes_on outline scripts scene kinds turns =
    all_go_on (code_states outline scripts scene kinds turns) (run_exclusive outline scripts scene kinds turns)
