use Rattle.std.proofs.Common.{◌≡◌, drop}
use Rattle.instance_store.specs.Instances.{start_state}
use Rattle.instance_store.proofs.instances.start_state.Given as goal

abbrev pub invariant-loop-script : goal.invariant-loop-script
invariant-loop-script l = start_state l.scripts (drop l.script-index l.above) ≡ start_state l.scripts l.above
