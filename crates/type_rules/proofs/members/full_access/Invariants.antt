-- What was found so far is the last Get and the last other function, and in range.
use Rattle.std.proofs.Common.{◌≡◌, take}
use Rattle.std.specs.Prelude.{option_map}
use Rattle.core_tree.specs.InRange.{AccessorInRange}
use Rattle.core_tree.specs.Set.{function_of_option}
use Rattle.type_rules.specs.Heads.{core_function_head, function_head, getter, setter}
use Rattle.type_rules.specs.Ranges.{KeepsScript, WorkInRange, functions_of, set_of, variables_of}
use Rattle.type_rules.proofs.members.full_access.Given as goal

abbrev pub invariant-loop-function : goal.invariant-loop-function
invariant-loop-function l = record {
  kept : KeepsScript l.fn.work l.work;
  getter : option_map core_function_head l.found.read ≡ option_map (function_head (set_of l.fn.work)) (getter (take l.function-index l.functions));
  setter : option_map core_function_head l.found.write ≡ option_map (function_head (set_of l.fn.work)) (setter (take l.function-index l.functions));
  read : WorkInRange l.fn.work → AccessorInRange (functions_of l.fn.work) (variables_of l.fn.work) (function_of_option l.found.read);
  write : WorkInRange l.fn.work → AccessorInRange (functions_of l.fn.work) (variables_of l.fn.work) (function_of_option l.found.write);
}
