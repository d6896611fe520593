use Rattle.std.proofs.Common.{◌≡◌, [], Some, drop, take}
use Rattle.std.specs.List.{All}
use Rattle.papy_base.specs.Table.{IsPlaceTable}
use Rattle.scene_reader.specs.Limits.{EntryKeeps}
use Rattle.scene_binder.specs.Bound.{IsBoundEntry}
use Rattle.scene_binder.specs.Faults.{entry_breaks, in_turn, set_name}
use Rattle.scene_binder.specs.Limits.{IsShortEntry}
use Rattle.scene_binder.specs.Scope.{EntriesAre, known_script}
use Rattle.scene_binder.proofs.binder.Known.bind_entries.Given as goal

abbrev pub invariant-loop-place : goal.invariant-loop-place
invariant-loop-place l = record {
  bound : All (IsBoundEntry l.self.scripts.now l.self.instances.now.scripts.items l.script) l.bound.items;
  short : All EntryKeeps l.set → All IsShortEntry l.bound.items;
  meant : EntriesAre l.self.scripts.now l.self.instances.now l.script (take l.place l.set) l.bound.items;
  named : IsPlaceTable set_name (take l.place l.set) l.names;
  judged : in_turn (entry_breaks l.self.scripts.now (known_script l.self.instances.now) (Some l.script)) [] l.set ≡ in_turn (entry_breaks l.self.scripts.now (known_script l.self.instances.now) (Some l.script)) (take l.place l.set) (drop l.place l.set);
}
