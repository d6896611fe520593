use Rattle.std.proofs.Common.{◌≡◌, map, take}
use Rattle.instance_store.specs.Instances.{initial_values}
use Rattle.instance_store.proofs.instances.all_initial_values.Given as goal

abbrev pub invariant-loop-script : goal.invariant-loop-script
invariant-loop-script l = l.found.items ≡ map (initial_values l.scripts) (take l.script-index l.above)
