use Rattle.std.proofs.Common.{◌≡◌, ◌++◌, List, Some, map, drop}
use Rattle.std.specs.List.{slice_get}
use Rattle.std.specs.List.{All}
use Rattle.core_tree.specs.declared.outline.OutlineScript.{OutlineScript}
use Rattle.scene_binder.specs.Limits.{NativesKeepLimits}
use Rattle.scene_binder.specs.NativeList.{AreTabled, HoldsNative, IsUnbound, native_place}
use Rattle.scene_binder.specs.Natives.{native_places_from}
use Rattle.scene_binder.proofs.natives.Natives.add_functions.Given as goal

abbrev pub invariant-loop-place : goal.invariant-loop-place
invariant-loop-place l = record {
  each_once : map native_place l.self.natives.items ++ native_places_from l.number l.place (drop l.place l.script.functions.items) ≡ map native_place l.fn.self.natives.items ++ native_places_from l.number 0 l.script.functions.items;
  hold : (scripts : List OutlineScript) → slice_get scripts l.number ≡ Some l.script → All (HoldsNative scripts l.fn.self.devices) l.fn.self.natives.items → All (HoldsNative scripts l.fn.self.devices) l.self.natives.items;
  tabled : (scripts : List OutlineScript) → slice_get scripts l.number ≡ Some l.script → AreTabled scripts l.fn.self → AreTabled scripts l.self;
  unbound : All IsUnbound l.fn.self.natives.items → All IsUnbound l.self.natives.items;
  devices : l.self.devices ≡ l.fn.self.devices;
  limits : NativesKeepLimits l.fn.self → NativesKeepLimits l.self;
}
