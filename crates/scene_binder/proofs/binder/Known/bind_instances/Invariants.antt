use Rattle.std.proofs.Common.{◌≡◌, Some, drop, map, take}
use Rattle.std.specs.List.{All, flat_map}
use Rattle.scene_reader.specs.Limits.{InstanceKeeps}
use Rattle.scene_binder.specs.Bound.{IsBoundInstance, script_of, instance_name}
use Rattle.scene_binder.specs.Faults.{set_breaks}
use Rattle.scene_binder.specs.Instances.{tree_name, tree_script}
use Rattle.scene_binder.specs.Limits.{InstanceKeepsLimits}
use Rattle.scene_binder.specs.Scope.{SetsAre, known_script}
use Rattle.scene_binder.proofs.binder.Known.bind_instances.Given as goal

abbrev pub invariant-loop-number : goal.invariant-loop-number
invariant-loop-number l = record {
  bound : All (IsBoundInstance l.self.scripts.now l.self.instances.now.scripts.items) l.bound.items;
  scripts : map script_of l.bound.items ≡ take l.number l.self.instances.now.scripts.items;
  names : map instance_name l.bound.items ≡ map tree_name (take l.number l.instances);
  limits : All InstanceKeeps l.instances → All InstanceKeepsLimits l.bound.items;
  meant : SetsAre l.self.scripts.now l.self.instances.now (take l.number l.instances) l.bound.items;
  judged : map Some l.self.instances.now.scripts.items ≡ map (tree_script l.self.scripts.now) l.instances → flat_map (set_breaks l.self.scripts.now (known_script l.self.instances.now)) l.instances ≡ flat_map (set_breaks l.self.scripts.now (known_script l.self.instances.now)) (drop l.number l.instances);
}
