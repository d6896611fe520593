use Rattle.std.proofs.Common.{◌≡◌, ℕ, List, drop, map, take}
use Rattle.std.specs.List.{All, flat_map}
use Rattle.core_tree.specs.declared.outline.OutlineScript.{OutlineScript}
use Rattle.core_tree.specs.declared.scene_tree.Binding.{Binding}
use Rattle.scene_binder.specs.Meant.{IsNativeMeant}
use Rattle.scene_binder.specs.Bound.{IsBoundNative, place_of}
use Rattle.scene_binder.specs.Limits.{NativeKeepsLimits, NativesKeepLimits}
use Rattle.scene_binder.specs.NativeList.{AreMeant, AreNatives, native_place}
use Rattle.scene_binder.specs.NativeState.{left_breaks}
use Rattle.scene_binder.proofs.natives.Natives.finish.Given as goal

abbrev pub invariant-loop-native : goal.invariant-loop-native
invariant-loop-native l = record {
  each_once : map place_of l.bound.items ≡ map native_place (take l.native-index l.self.natives.items);
  allowed : (scripts : List OutlineScript) → AreNatives scripts l.self → All (IsBoundNative scripts l.self.devices) l.bound.items;
  meant : (scripts : List OutlineScript) (entries : List (List ℕ × Binding)) → AreNatives scripts l.self → AreMeant scripts entries l.self → All (IsNativeMeant scripts entries) l.bound.items;
  limits : NativesKeepLimits l.self → All NativeKeepsLimits l.bound.items;
  judged : flat_map left_breaks l.self.natives.items ≡ flat_map left_breaks (drop l.native-index l.self.natives.items);
}
