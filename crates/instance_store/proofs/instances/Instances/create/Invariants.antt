use Rattle.std.proofs.Common.{◌≡◌, map, take}
use Rattle.instance_store.specs.Instances.{started}
use Rattle.instance_store.proofs.instances.Instances.create.Given as goal

abbrev pub invariant-loop-instance : goal.invariant-loop-instance
invariant-loop-instance l = l.instances.items ≡ map (started l.outline.scripts.items) (take l.instance-index l.scene.instances.items)
