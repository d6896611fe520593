use Rattle.std.proofs.Common.{◌≡◌, map, take}
use Rattle.scene_binder.specs.Bound.{instance_name}
use Rattle.run_commands.proofs.turns.names_of.Given as goal

-- the names so far
abbrev pub invariant-loop-instance : goal.invariant-loop-instance
invariant-loop-instance l = l.names.items ≡ map instance_name (take l.instance-index l.instances)
