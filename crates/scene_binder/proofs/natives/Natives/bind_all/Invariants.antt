use Rattle.std.proofs.Common.{◌≡◌, List, [], drop, take}
use Rattle.std.specs.List.{All}
use Rattle.core_tree.specs.declared.outline.OutlineScript.{OutlineScript}
use Rattle.scene_reader.specs.Limits.{NativeKeeps}
use Rattle.scene_binder.specs.Faults.{in_turn, native_breaks}
use Rattle.scene_binder.specs.Limits.{NativesKeepLimits}
use Rattle.scene_binder.specs.NativeList.{AreBoundBy, AreNatives}
use Rattle.scene_binder.specs.NativeState.{AreSettled}
use Rattle.scene_binder.proofs.natives.Natives.bind_all.Given as goal

abbrev pub invariant-loop-entry : goal.invariant-loop-entry
invariant-loop-entry l = record {
  natives : (scripts : List OutlineScript) → AreNatives scripts l.fn.self → AreNatives scripts l.self;
  devices : l.self.devices ≡ l.fn.self.devices;
  bound : (scripts : List OutlineScript) → AreNatives scripts l.fn.self → AreBoundBy scripts [] l.fn.self → AreBoundBy scripts (take l.entry-index l.entries) l.self;
  limits : All NativeKeeps l.entries → NativesKeepLimits l.fn.self → NativesKeepLimits l.self;
  judged : (scripts : List OutlineScript) → AreNatives scripts l.fn.self → AreSettled scripts [] [] l.fn.self → in_turn (native_breaks scripts l.fn.self.devices) [] l.entries ≡ in_turn (native_breaks scripts l.fn.self.devices) (take l.entry-index l.entries) (drop l.entry-index l.entries);
  settled : (scripts : List OutlineScript) → AreNatives scripts l.fn.self → AreSettled scripts [] [] l.fn.self → AreSettled scripts (take l.entry-index l.entries) [] l.self;
}
