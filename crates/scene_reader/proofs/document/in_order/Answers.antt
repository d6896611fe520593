use Rattle.std.proofs.Common.{sym, subst, ◌∙◌, string_cmp}
use Rattle.std.specs.BTreeMap as tree
use Rattle.std.proofs.lemmas.Iterator.{items_from_drains}
use Rattle.std.proofs.lemmas.Iterator.Adapters.{YieldsList-from_vec}
use Rattle.scene_reader.proofs.Found.{map_same}
use Rattle.scene_reader.proofs.Ordered.{members_from_list}
use Rattle.scene_reader.proofs.document.in_order.Goals as goal

pub returns-in-Ok-clause-ok : goal.returns-in-Ok-clause-ok
returns-in-Ok-clause-ok c =
    let r = c.in-Ok.ensures.ran in
    let all = items_from_drains r.1 r.3 (YieldsList-from_vec {s = r.0} c.args.found.items r.2.0 (r.2.1 ∙ c.args.found.ok.0)) in
    members_from_list c.args.found.items c.in-Ok.members (subst (λ xs. tree.IsFromIterResult string_cmp xs c.in-Ok.members) (sym (map_same r.1) ∙ all) r.4)
