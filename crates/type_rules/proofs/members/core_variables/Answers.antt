use Rattle.std.proofs.Common.{◌≡◌, ◌≤◌, ◌∙◌, ap, arith, length, map, sym}
use Rattle.std.proofs.lemmas.Grind.{common_steps}
use Rattle.std.proofs.lemmas.List.{take_all}
use Rattle.std.proofs.lemmas.List.Elements.{All-push}
use Rattle.core_tree.specs.InRange.{VariableInRange}
use Rattle.type_rules.proofs.Heads.{heads-next}
use Rattle.type_rules.proofs.MemberRanges.{keeps-further}
use Rattle.type_rules.proofs.VariableHeads.{heads-declared, source_head}
use Rattle.type_rules.specs.Variables.{core_variable_head}
use Rattle.type_rules.specs.Ranges.{functions_of, set_of}
use Rattle.type_rules.proofs.members.core_variables.Goals as goal

pub loop-source-preserved : goal.loop-source-preserved
loop-source-preserved c =
    let entry = c.args.work.now in
    let set = set_of entry in
    let before = c.loop-source.work in
    let so_far = c.loop-source.invariant in
    let found = c.loop-source.found.items in
    let made = c.in_ok-source_variable.field-0 in
    let judged = c.in_ok-source_variable.ensures in
    let source = c.source-item.result in
    let sources = entry.layout.now.sources.items in
    let head : core_variable_head made ≡ source_head set source = rw so_far.kept.catalog at judged.head in
    record {
      kept = keeps-further entry before c.source_variable.new.work so_far.kept judged.kept;
      heads = heads-next core_variable_head (source_head set) sources c.loop-source.source-index found c.push.new.self.items made source c.in_ok-push.ensures.items so_far.heads (omega (arith, ap length c.deref-source-items.ensures.value)) (rw c.deref-source-items.ensures.value at c.source-item.is) head;
      count = grind (arith, common_steps);
      in_range = rw c.in_ok-push.ensures.items (All-push (VariableInRange (functions_of entry)) found made so_far.in_range (rw so_far.kept.catalog at judged.in_range));
    }

pub returns-clause-heads : goal.returns-clause-heads
returns-clause-heads c =
    let set = set_of c.args.work.now in
    let sources = c.args.work.now.layout.now.sources.items in
    let past : length sources ≤ c.loop-source.source-index = omega (arith, ap length c.deref-source-items.ensures.value) in
    c.loop-source.invariant.heads ∙ ap (map (source_head set)) (take_all c.loop-source.source-index sources past) ∙ sym (heads-declared set sources)
