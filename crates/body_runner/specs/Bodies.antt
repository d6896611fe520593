-- What a running body is in the terms of the definitions.
use Rattle.std.specs.Prelude.{◌≡◌, ℕ, [], ◌∷◌, ◌++◌, drop, Option, Some, None}
use Rattle.papy_base.specs.declared.faults.StackFault.{StackFault}
use Rattle.pex_verify.specs.Plain.{outline_of, scripts_of}
use Rattle.loaded_code.specs.Plain.{function_of}
use Rattle.script_meaning.specs.Requests.{Setting}
use Rattle.script_meaning.specs.World.{Faulted}
use Rattle.code_meaning.specs.Execution.{Halt, run_from}
use Rattle.code_meaning.specs.Operands.{Home as Around, Inner as Within, place_of}
use Rattle.body_runner.specs.declared.body.Home.{Home}
use Rattle.body_runner.specs.declared.body.Inner.{Inner}
use Rattle.body_runner.specs.Operands.{KeepsLoans}
use Rattle.body_runner.specs.Sights.{Rest, instances_after, sight_of, titles_of}

abbrev pub setting_of : Home → Setting
setting_of home = record {
  stack = home.turn.now.stack;
  self = home.instance;
  outline = outline_of home.turn.now.setting.now.loaded;
  instances = titles_of home.turn.now.setting.now.scene;
  natives = home.turn.now.setting.now.scene.natives.items;
  has_room = home.has_room;
}

abbrev pub home_of : Home → Around
home_of home =
    record { setting = setting_of home; scripts = scripts_of home.turn.now.setting.now.loaded; script = home.script; function = function_of home.function.now }

abbrev pub inner_of : Home → Inner → Rest → Within
inner_of home inner rest =
    record { slots = inner.slots.now.items; sight = sight_of inner.store.now.instances inner.store.now.arrays home.instance rest }

-- with the line of a fault of the instruction at this place, if it faults
abbrev pub printing : Home → ℕ → Option StackFault → Rest → Rest
printing home at None rest = rest
printing home at (Some fault) rest =
    record rest { output = rest.output ++ Faulted home.turn.now.stack (place_of (home_of home) at) fault ∷ [] }

-- what the body does from this place on
abbrev pub runs : Home → ℕ → Inner → Rest → Halt
runs home place inner rest =
    run_from (home_of home) place (drop place (home_of home).function.code) 0 (inner_of home inner rest)

-- all other instances are as they were, and the body has what was lent to it
pub record KeepsOthers (home : Home) (old new : Inner) : Type 0 where
  pub others : new.store.now.instances ≡ instances_after old.store.now.instances home.instance new.store.now.instances
  pub loans : KeepsLoans old new
