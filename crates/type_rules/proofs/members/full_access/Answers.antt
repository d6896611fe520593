use Rattle.std.proofs.Common.{◌≡◌, ◌<◌, arith, codes, length}
use Rattle.std.specs.Prelude.{Option, Some}
use Rattle.std.specs.Str.{str_eq_ignore_ascii_case}
use Rattle.core_tree.specs.declared.script.CoreFunction.{CoreFunction}
use Rattle.core_tree.specs.InRange.{AccessorInRange}
use Rattle.core_tree.specs.Set.{function_of_option}
use Rattle.type_rules.proofs.AccessHeads.{getter-next, picked, setter-next}
use Rattle.type_rules.proofs.MemberRanges.{function-kept, keeps-further, keeps-work}
use Rattle.type_rules.specs.Heads.{core_function_head, function_head}
use Rattle.type_rules.specs.Ranges.{CoreFunctionInRange, WorkInRange, functions_of, set_of, variables_of}
use Rattle.type_rules.proofs.members.full_access.Goals as goal

pub loop-function-preserved : goal.loop-function-preserved
loop-function-preserved c =
    let entry = c.args.work.now in
    let set = set_of entry in
    let functions = c.args.functions.now in
    let n = c.loop-function.function-index in
    let before = c.loop-function.work in
    let so_far = c.loop-function.invariant in
    let found = c.loop-function.found in
    let made = c.in_ok-made.made in
    let judged = c.in_ok-made.ensures in
    let function = c.function-item.result in
    let within : n < length functions = omega arith in
    let head : core_function_head made ≡ function_head set function = rw so_far.kept.catalog at judged.head in
    let test = str_eq_ignore_ascii_case made.name (codes "Get") in
    let there : WorkInRange entry → CoreFunctionInRange entry made = λ r. function-kept entry before so_far.kept made (judged.in_range (keeps-work entry before so_far.kept r)) in
    let P : Option CoreFunction → Type 0 = λ f. AccessorInRange (functions_of entry) (variables_of entry) (function_of_option f) in
    record {
      kept = keeps-further entry before c.core_function.new.work so_far.kept judged.kept;
      getter = rw c.add.ensures.read (getter-next set functions n function made found.read within c.function-item.is head so_far.getter);
      setter = rw c.add.ensures.write (setter-next set functions n function made found.write within c.function-item.is head so_far.setter);
      read = λ r. rw c.add.ensures.read (picked test (Some made) found.read P (there r) (so_far.read r));
      write = λ r. rw c.add.ensures.write (picked test found.write (Some made) P (so_far.write r) (there r));
    }
