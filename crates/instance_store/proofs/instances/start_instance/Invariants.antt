use Rattle.std.proofs.Common.{◌≡◌, drop}
use Rattle.instance_store.specs.Instances.{scripts_after}
use Rattle.instance_store.proofs.instances.start_instance.Given as goal

abbrev pub invariant-loop-entry : goal.invariant-loop-entry
invariant-loop-entry l = scripts_after l.variables.items (drop l.entry-index l.instance.set.items) ≡ scripts_after l.initial.variables.items l.instance.set.items
