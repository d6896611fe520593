use Rattle.std.proofs.Common.{◌≡◌, arith}
use Rattle.std.proofs.lemmas.Grind.{common_steps}
use Rattle.std.proofs.lemmas.List.Elements.{All-push}
use Rattle.type_rules.proofs.Heads.{heads-next}
use Rattle.type_rules.proofs.MemberRanges.{function-kept, keeps-further, keeps-work}
use Rattle.type_rules.specs.Heads.{core_function_head, function_head}
use Rattle.type_rules.specs.Ranges.{CoreFunctionInRange, set_of}
use Rattle.type_rules.proofs.members.core_functions.Goals as goal

pub loop-function-preserved : goal.loop-function-preserved
loop-function-preserved c =
    let entry = c.args.work.now in
    let set = set_of entry in
    let before = c.loop-function.work in
    let so_far = c.loop-function.invariant in
    let found = c.loop-function.found.items in
    let made = c.in_ok-core_function.field-0 in
    let judged = c.in_ok-core_function.ensures in
    let function = c.function-item.result in
    let head : core_function_head made ≡ function_head set function = rw so_far.kept.catalog at judged.head in
    record {
      heads = heads-next core_function_head (function_head set) c.args.functions.now c.loop-function.function-index found c.push_reserved.new.self.items made function c.push_reserved.ensures.items so_far.heads (omega arith) c.function-item.is head;
      kept = keeps-further entry before c.core_function.new.work so_far.kept judged.kept;
      in_range = λ r. rw c.push_reserved.ensures.items (All-push (CoreFunctionInRange entry) found made (so_far.in_range r) (function-kept entry before so_far.kept made (judged.in_range (keeps-work entry before so_far.kept r))));
      count = grind (arith, common_steps);
      room = grind (arith, common_steps);
    }
