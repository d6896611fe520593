use Rattle.std.proofs.Common.{◌≡◌, [], Some, length, map, take, drop}
use Rattle.std.specs.List.{All}
use Rattle.papy_base.specs.Table.{IsPlaceTable}
use Rattle.scene_binder.specs.Faults.{in_turn, instance_breaks}
use Rattle.scene_binder.specs.Instances.{IsInstantiable, tree_name, tree_script}
use Rattle.scene_binder.proofs.binder.NamedInstances.new.Given as goal

abbrev pub invariant-loop-number : goal.invariant-loop-number
invariant-loop-number l = record {
  count : length l.scripts.items ≡ l.number;
  scripts : All (IsInstantiable l.outline) l.scripts.items;
  named : IsPlaceTable tree_name (take l.number l.instances) l.names;
  scripts_named : map Some l.scripts.items ≡ map (tree_script l.outline) (take l.number l.instances);
  judged : in_turn (instance_breaks l.outline) [] l.instances ≡ in_turn (instance_breaks l.outline) (take l.number l.instances) (drop l.number l.instances);
}
