-- The functions so far are there and in range, and there is room for the rest.
use Rattle.std.proofs.Common.{◌≡◌, length, map, take, vec_len, vec_capacity}
use Rattle.std.specs.List.{All}
use Rattle.type_rules.specs.Heads.{core_function_head, function_head}
use Rattle.type_rules.specs.Ranges.{CoreFunctionInRange, KeepsScript, WorkInRange, set_of}
use Rattle.type_rules.proofs.members.core_functions.Given as goal

abbrev pub invariant-loop-function : goal.invariant-loop-function
invariant-loop-function l = record {
  heads : map core_function_head l.found.items ≡ map (function_head (set_of l.fn.work)) (take l.function-index l.functions);
  kept : KeepsScript l.fn.work l.work;
  in_range : WorkInRange l.fn.work → All (CoreFunctionInRange l.fn.work) l.found.items;
  count : vec_len l.found ≡ l.function-index;
  room : vec_capacity l.found ≡ length l.functions;
}
