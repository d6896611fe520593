-- What a body sees of the store.
use Rattle.std.specs.Prelude.{ℕ, ◌<◌, List, [], length, map, Option, Some, None, slice_set}
use Rattle.core_tree.specs.Device.{DeviceState}
use Rattle.core_tree.specs.declared.scene.Scene.{Scene}
use Rattle.instance_store.specs.Arrays.{ArrayState as Stored}
use Rattle.instance_store.specs.Instances.{InstanceState, ScriptValues, instance_at}
use Rattle.script_meaning.specs.Requests.{Sight}
use Rattle.script_meaning.specs.World.{Variables, ArrayState, Line}

-- what a body sees and no field of it has: the devices, and the lines printed
pub record Rest : Type 0 where
  pub devices : List DeviceState
  pub output : List Line

abbrev pub variables_of : List ScriptValues → Variables
variables_of scripts = map (λ part. (part.script, part.values)) scripts

abbrev pub arrays_of : List Stored → List ArrayState
arrays_of arrays = map (λ array. record { kind = array.kind; items = array.items }) arrays

abbrev pub sight_of : List InstanceState → List Stored → Option ℕ → Rest → Sight
sight_of instances arrays None rest =
    record { variables = []; state = []; arrays = arrays_of arrays; devices = rest.devices; output = rest.output }
sight_of instances arrays (Some instance) rest =
    record { variables = variables_of (instance_at instances instance).scripts; state = (instance_at instances instance).state; arrays = arrays_of arrays; devices = rest.devices; output = rest.output }

-- the script and the name of each instance
abbrev pub titles_of : Scene → List (ℕ × List ℕ)
titles_of scene = map (λ instance. (instance.script, instance.name)) scene.instances.items

-- ---- instances
-- the instance of a body, if it has one, is among these
abbrev pub IsThere : Option ℕ → List InstanceState → Type 0
IsThere None instances = Unit {0}
IsThere (Some instance) instances = instance < length instances

-- ---- what a body doesn't see
-- these instances, with what a body that ran on one of them left of it
abbrev pub instances_after : List InstanceState → Option ℕ → List InstanceState → List InstanceState
instances_after old None new = old
instances_after old (Some instance) new = slice_set old instance (instance_at new instance)
