use Rattle.std.proofs.Common.{arith}
use Rattle.lock_queue.proofs.QueueLemmas.{seen_queues, seen_is, pushed_queues, AreQueues-walk, lasts_within}
use Rattle.lock_queue.proofs.queues.Queues.push.Goals as goal

pub relink-requires : goal.relink-requires
relink-requires c =
    let i = c.self.inside in
    let queues = seen_queues i.next.items i.firsts.items i.lasts.items c.args.self.now c.self.view_is c.self.invariant in
    λ x e. let h = lasts_within i.next.items i.firsts.items i.lasts.items _ _ c.args.instance c.from-queue.result c.index-last.result.now queues c.requires.instance_in c.from-queue.ensures c.index-last.ensures x e in omega (arith, h, i.next.ok.0, queues.next_room)

pub invariant_of-self : goal.invariant_of-self
invariant_of-self c =
    let i = c.self.inside in
    let queues = seen_queues i.next.items i.firsts.items i.lasts.items c.args.self.now c.self.view_is c.self.invariant in
    AreQueues-walk _ _ _ _ _
    (pushed_queues i.next.items i.firsts.items i.lasts.items _ _ c.args.instance c.args.stack c.from-queue.result c.from.result c.index-last.result.now c.index_mut-2.result.now c.relink.new.links.items c.relink.new.end queues c.requires.instance_in c.requires.stack_in c.requires.new c.from-queue.ensures c.from.ensures c.index-last.ensures c.index_mut-2.ensures.value c.relink.ensures.links c.relink.ensures.end)

pub returns : goal.returns
returns c =
    let i = c.self.inside in
    let queues = seen_queues i.next.items i.firsts.items i.lasts.items c.args.self.now c.self.view_is c.self.invariant in
    seen_is _ _ _ _ _
    (pushed_queues i.next.items i.firsts.items i.lasts.items _ _ c.args.instance c.args.stack c.from-queue.result c.from.result c.index-last.result.now c.index_mut-2.result.now c.relink.new.links.items c.relink.new.end queues c.requires.instance_in c.requires.stack_in c.requires.new c.from-queue.ensures c.from.ensures c.index-last.ensures c.index_mut-2.ensures.value c.relink.ensures.links c.relink.ensures.end)
