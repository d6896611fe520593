-- The variables so far are there and in range.
use Rattle.std.proofs.Common.{◌≡◌, map, take, vec_len}
use Rattle.std.specs.List.{All}
use Rattle.core_tree.specs.InRange.{VariableInRange}
use Rattle.type_rules.specs.Ranges.{KeepsScript, functions_of, set_of}
use Rattle.type_rules.specs.Variables.{core_variable_head}
use Rattle.type_rules.proofs.VariableHeads.{source_head}
use Rattle.type_rules.proofs.members.core_variables.Given as goal

abbrev pub invariant-loop-source : goal.invariant-loop-source
invariant-loop-source l = record {
  kept : KeepsScript l.fn.work l.work;
  heads : map core_variable_head l.found.items ≡ map (source_head (set_of l.fn.work)) (take l.source-index l.fn.work.layout.now.sources.items);
  count : vec_len l.found ≡ l.source-index;
  in_range : All (VariableInRange (functions_of l.fn.work)) l.found.items;
}
