-- What the entry of a call does.
use Rattle.std.specs.Prelude.{ℕ, List, [], Option}
use Rattle.core_tree.specs.declared.value.Value.{Value}
use Rattle.core_tree.specs.Device.{DeviceState}
use Rattle.loaded_code.specs.declared.script.MethodPlace.{MethodPlace}
use Rattle.body_runner.specs.declared.body.Turn.{Turn}
use Rattle.body_runner.specs.declared.frame.Stack.{Stack}
use Rattle.body_runner.specs.declared.frame.Stack.TheVariants.{Done, ToEnter, Running}
use Rattle.stack_machine.specs.Runs.{Performs}

-- the arguments of a stack's innermost call
abbrev pub arguments_in : Stack → List Value
arguments_in Done = []
arguments_in (ToEnter call below) = call.arguments.items
arguments_in (Running innermost reply below) = []

-- a native was performed, once
pub record PerformsOnce (turn : Turn) (at : MethodPlace) (arguments : List Value) (devices devices' : List DeviceState) (before now : Option (List ℕ)) : Type 0 where
  pub reply : Value
  pub performs : Performs turn at arguments reply devices devices' before now
