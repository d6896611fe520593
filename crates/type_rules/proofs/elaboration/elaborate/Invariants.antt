-- The scripts so far are there and in range, and what was found stands in one of them.
use Rattle.std.proofs.Common.{◌≡◌, length, map, take}
use Rattle.std.specs.List.{All}
use Rattle.core_tree.specs.InRange.{ScriptInRange}
use Rattle.core_tree.specs.Set.{script_of}
use Rattle.type_scope.specs.Types.{signatures}
use Rattle.type_rules.specs.Faults.{HasFaultBelow}
use Rattle.script_linker.specs.Generated.{Pairwise}
use Rattle.type_rules.specs.Heads.{core_script_head, script_head}
use Rattle.type_rules.specs.Variables.{ScriptVariables}
use Rattle.type_rules.proofs.elaboration.elaborate.Given as goal

abbrev pub invariant-loop-number : goal.invariant-loop-number
invariant-loop-number l = record {
  heads : map core_script_head l.scripts.items ≡ map (script_head l.set) (take l.number l.set);
  variables : Pairwise (ScriptVariables l.set) (take l.number l.set) l.scripts.items;
  in_range : All (ScriptInRange (signatures l.set)) (map script_of l.scripts.items);
  broken : HasFaultBelow (length l.set) l.faults.broken;
  too_large : HasFaultBelow (length l.set) l.faults.too_large;
}
