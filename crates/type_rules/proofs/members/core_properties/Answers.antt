use Rattle.std.proofs.Common.{◌≡◌, arith}
use Rattle.std.proofs.lemmas.List.Elements.{All-push}
use Rattle.type_rules.proofs.Heads.{heads-next}
use Rattle.type_rules.proofs.MemberRanges.{keeps-further, keeps-work, property-kept}
use Rattle.type_rules.specs.Heads.{core_property_head, property_head}
use Rattle.type_rules.specs.Ranges.{CorePropertyInRange, set_of}
use Rattle.type_rules.proofs.members.core_properties.Goals as goal

pub loop-place-preserved : goal.loop-place-preserved
loop-place-preserved c =
    let entry = c.args.work.now in
    let set = set_of entry in
    let before = c.loop-place.work in
    let so_far = c.loop-place.invariant in
    let found = c.loop-place.found.items in
    let made = c.in_ok-core_property.field-0 in
    let judged = c.in_ok-core_property.ensures in
    let property = c.index-properties-place.result in
    let head : core_property_head made ≡ property_head set property = rw so_far.kept.catalog at judged.head in
    record {
      heads = heads-next core_property_head (property_head set) c.args.properties.now c.loop-place.place found c.push.new.self.items made property c.in_ok-push.ensures.items so_far.heads (omega arith) c.index-properties-place.is head;
      kept = keeps-further entry before c.core_property.new.work so_far.kept judged.kept;
      in_range = λ r. rw c.in_ok-push.ensures.items (All-push (CorePropertyInRange entry) found made (so_far.in_range r) (property-kept entry before so_far.kept made (judged.in_range (keeps-work entry before so_far.kept r))));
    }
