use Rattle.std.proofs.Common.{arith}
use Rattle.lock_queue.proofs.OrderLemmas.{seen_linked, seen_is, pushed, IsLinked-walk, last_within}
use Rattle.lock_queue.proofs.queues.StackList.push.Goals as goal

pub relink-requires : goal.relink-requires
relink-requires c =
    let i = c.self.inside in
    λ x e. let h = last_within i.after.items i.before.items i.first i.last _ _ c.self.invariant x e in omega (arith, h, i.after.ok.0)

pub invariant_of-self : goal.invariant_of-self
invariant_of-self c =
    let i = c.self.inside in
    let linked = seen_linked i.after.items i.before.items i.first i.last c.args.self.now c.self.view_is c.self.invariant in
    IsLinked-walk _ _ _ _ _ _
    (pushed i.after.items i.before.items i.first i.last _ _ c.args.stack c.from-place.result c.relink.new.links.items c.relink.new.end linked c.from-place.ensures c.requires.new c.requires.within c.relink.ensures.links c.relink.ensures.end)

pub returns : goal.returns
returns c =
    let i = c.self.inside in
    let linked = seen_linked i.after.items i.before.items i.first i.last c.args.self.now c.self.view_is c.self.invariant in
    seen_is _ _ _ _ _ _
    (pushed i.after.items i.before.items i.first i.last _ _ c.args.stack c.from-place.result c.relink.new.links.items c.relink.new.end linked c.from-place.ensures c.requires.new c.requires.within c.relink.ensures.links c.relink.ensures.end)
