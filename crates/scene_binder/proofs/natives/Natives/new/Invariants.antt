use Rattle.std.proofs.Common.{◌≡◌, ◌++◌, map, drop}
use Rattle.std.specs.List.{All}
use Rattle.scene_binder.specs.Limits.{NativesKeepLimits}
use Rattle.scene_binder.specs.NativeList.{AreTabled, HoldsNative, IsUnbound, native_place}
use Rattle.scene_binder.specs.Natives.{native_places, native_places_of}
use Rattle.scene_binder.proofs.natives.Natives.new.Given as goal

abbrev pub invariant-loop-number : goal.invariant-loop-number
invariant-loop-number l = record {
  each_once : map native_place l.found.natives.items ++ native_places_of l.number (drop l.number l.outline.scripts.items) ≡ native_places l.outline.scripts.items;
  hold : All (HoldsNative l.outline.scripts.items l.devices) l.found.natives.items;
  tabled : AreTabled l.outline.scripts.items l.found;
  unbound : All IsUnbound l.found.natives.items;
  devices : l.found.devices ≡ l.devices;
  limits : NativesKeepLimits l.found;
}
