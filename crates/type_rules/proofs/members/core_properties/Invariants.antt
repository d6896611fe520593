-- The properties so far are there and in range.
use Rattle.std.proofs.Common.{◌≡◌, map, take}
use Rattle.std.specs.List.{All}
use Rattle.type_rules.specs.Heads.{core_property_head, property_head}
use Rattle.type_rules.specs.Ranges.{CorePropertyInRange, KeepsScript, WorkInRange, set_of}
use Rattle.type_rules.proofs.members.core_properties.Given as goal

abbrev pub invariant-loop-place : goal.invariant-loop-place
invariant-loop-place l = record {
  heads : map core_property_head l.found.items ≡ map (property_head (set_of l.fn.work)) (take l.place l.properties);
  kept : KeepsScript l.fn.work l.work;
  in_range : WorkInRange l.fn.work → All (CorePropertyInRange l.fn.work) l.found.items;
}
