use Rattle.std.proofs.Common.{◌≡◌, drop, map, take}
use Rattle.std.specs.List.{All, flat_map}
use Rattle.scene_reader.specs.Limits.{CallKeeps}
use Rattle.scene_binder.specs.Bound.{IsBoundCall, call_parts}
use Rattle.scene_binder.specs.Faults.{call_breaks}
use Rattle.scene_binder.specs.Instances.{tree_call_parts}
use Rattle.scene_binder.specs.Limits.{CallKeepsLimits}
use Rattle.scene_binder.specs.Scope.{CallsAre, known_script}
use Rattle.scene_binder.proofs.binder.Known.bind_calls.Given as goal

abbrev pub invariant-loop-call : goal.invariant-loop-call
invariant-loop-call l = record {
  bound : All (IsBoundCall l.self.scripts.now l.self.instances.now.scripts.items) l.bound.items;
  parts : map call_parts l.bound.items ≡ map tree_call_parts (take l.call-index l.calls);
  limits : All CallKeeps l.calls → All CallKeepsLimits l.bound.items;
  meant : CallsAre l.self.instances.now (take l.call-index l.calls) l.bound.items;
  judged : flat_map (call_breaks l.self.scripts.now (known_script l.self.instances.now)) l.calls ≡ flat_map (call_breaks l.self.scripts.now (known_script l.self.instances.now)) (drop l.call-index l.calls);
}
