use Rattle.std.proofs.Common.{◌≡◌, ◌<◌, [], length, map, ap, arith, slice_index_or}
use Rattle.std.proofs.lemmas.List.Elements.{All-push}
use Rattle.type_rules.proofs.Heads.{states-push}
use Rattle.type_rules.proofs.MemberRanges.{keeps-further, keeps-work, state-kept}
use Rattle.type_rules.specs.Heads.{core_state_head, function_head, state_head}
use Rattle.type_rules.specs.Ranges.{CoreStateInRange, set_of}
use Rattle.type_rules.proofs.members.core_states.Goals as goal

pub loop-state-preserved : goal.loop-state-preserved
loop-state-preserved c =
    let entry = c.args.work.now in
    let before = c.loop-state.work in
    let states = c.args.script.now.states.items in
    let n = c.loop-state.state-index in
    let found = c.loop-state.found.items in
    let so_far = c.loop-state.invariant in
    let made = c.in_ok-core_state-2.field-0 in
    let judged = c.in_ok-core_state-2.ensures in
    let state = c.state-item.result in
    let within : n < length states = omega (arith, ap length c.deref-state-items.ensures.value) in
    let is : state ≡ slice_index_or states n state = cc (c.state-item.is, c.deref-state-items.ensures.value) in
    let set = set_of entry in
    let same : set_of before ≡ set = cc so_far.kept.catalog in
    let made_is : core_state_head made ≡ state_head set state = cc (same, judged.head, c.in_ok-name.ensures, c.as_slice-in-loop-state.ensures.value) in
    record {
      heads = states-push set states n (record { name = []; functions = map (function_head set) c.args.script.now.functions.items }) found _ made state c.in_ok-push-2.ensures.items so_far.heads within is made_is;
      kept = keeps-further entry before c.core_state-in-loop-state.new.work so_far.kept judged.kept;
      in_range = λ r. rw c.in_ok-push-2.ensures.items (All-push (CoreStateInRange entry) found made (so_far.in_range r) (state-kept entry before so_far.kept made (judged.in_range (keeps-work entry before so_far.kept r))));
    }
