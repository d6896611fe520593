use Rattle.std.proofs.Common.{◌≡◌, drop, take}
use Rattle.std.specs.List.{All}
use Rattle.scene_reader.specs.Limits.{ValueKeeps}
use Rattle.scene_binder.specs.Bound.{AreOfTypes}
use Rattle.scene_binder.specs.Faults.{values_fit}
use Rattle.scene_binder.specs.Limits.{IsShortValue}
use Rattle.scene_binder.specs.Scope.{ValuesAre, known_script}
use Rattle.scene_binder.proofs.binder.Known.bind_arguments.Given as goal

abbrev pub invariant-loop-place : goal.invariant-loop-place
invariant-loop-place l = record {
  typed : AreOfTypes l.self.scripts.now l.self.instances.now.scripts.items (take l.place l.parameters) l.bound.items;
  short : All ValueKeeps l.arguments → All IsShortValue l.bound.items;
  meant : ValuesAre l.self.instances.now (take l.place l.arguments) l.bound.items;
  judged : values_fit l.self.scripts.now (known_script l.self.instances.now) l.parameters l.arguments ≡ values_fit l.self.scripts.now (known_script l.self.instances.now) (drop l.place l.parameters) (drop l.place l.arguments);
}
