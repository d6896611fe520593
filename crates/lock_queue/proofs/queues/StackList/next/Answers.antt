use Rattle.std.proofs.Common.{arith, ◌∙◌}
use Rattle.lock_queue.proofs.LinkLemmas.{below_has}
use Rattle.lock_queue.proofs.OrderLemmas.{seen_linked, next_is, read_after}
use Rattle.lock_queue.proofs.queues.StackList.next.Goals as goal

pub index-requires : goal.index-requires
index-requires c =
    let i = c.self.inside in
    let linked = seen_linked i.after.items i.before.items i.first i.last c.args.self.now c.self.view_is c.self.invariant in
    let h = below_has _ _ c.args.stack linked.below c.requires in
    omega (arith, h, i.after.ok.0, linked.after_room)

pub returns : goal.returns
returns c =
    let i = c.self.inside in
    let linked = seen_linked i.after.items i.before.items i.first i.last c.args.self.now c.self.view_is c.self.invariant in
    read_after i.after.items i.before.items i.first i.last _ _ c.args.stack c.from.result c.index.result.now linked c.requires c.from.ensures c.index.ensures
    ∙ next_is i.after.items i.first _ c.args.stack linked.leads linked.differ c.requires
