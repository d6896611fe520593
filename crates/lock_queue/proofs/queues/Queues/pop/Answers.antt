use Rattle.lock_queue.proofs.QueueLemmas.{seen_queues, seen_is, popped_queues, AreQueues-walk}
use Rattle.lock_queue.proofs.queues.Queues.pop.Goals as goal

pub invariant_of-self : goal.invariant_of-self
invariant_of-self c =
    let i = c.self.inside in
    let queues = seen_queues i.next.items i.firsts.items i.lasts.items c.args.self.now c.self.view_is c.self.invariant in
    AreQueues-walk _ _ _ _ _
    (popped_queues i.next.items i.firsts.items i.lasts.items _ _ c.args.instance c.args.stack c.from-queue.result c.from.result c.index-next.result.now c.index.result.now c.last_with.result queues c.requires c.from-queue.ensures c.from.ensures c.index-next.ensures c.index.ensures c.last_with.ensures)

pub returns : goal.returns
returns c =
    let i = c.self.inside in
    let queues = seen_queues i.next.items i.firsts.items i.lasts.items c.args.self.now c.self.view_is c.self.invariant in
    seen_is _ _ _ _ _
    (popped_queues i.next.items i.firsts.items i.lasts.items _ _ c.args.instance c.args.stack c.from-queue.result c.from.result c.index-next.result.now c.index.result.now c.last_with.result queues c.requires c.from-queue.ensures c.from.ensures c.index-next.ensures c.index.ensures c.last_with.ensures)
