use Rattle.std.proofs.Common.{arith, sym, ◌∙◌}
use Rattle.lock_queue.proofs.LinkLemmas.{below_has}
use Rattle.lock_queue.proofs.OrderLemmas.{seen_linked, seen_is, removed, IsLinked-walk, before_within, after_within, read_before, read_after}
use Rattle.lock_queue.proofs.queues.StackList.remove.Goals as goal

pub index-before-requires : goal.index-before-requires
index-before-requires c =
    let i = c.self.inside in
    let linked = seen_linked i.after.items i.before.items i.first i.last c.args.self.now c.self.view_is c.self.invariant in
    let h = below_has _ _ c.args.stack linked.below c.requires in
    omega (arith, h, i.before.ok.0, linked.before_room)

pub index-after-requires : goal.index-after-requires
index-after-requires c =
    let i = c.self.inside in
    let linked = seen_linked i.after.items i.before.items i.first i.last c.args.self.now c.self.view_is c.self.invariant in
    let h = below_has _ _ c.args.stack linked.below c.requires in
    omega (arith, h, i.after.ok.0, linked.after_room)

pub relink-requires : goal.relink-requires
relink-requires c =
    let i = c.self.inside in
    let linked = seen_linked i.after.items i.before.items i.first i.last c.args.self.now c.self.view_is c.self.invariant in
    let before_is = read_before i.after.items i.before.items i.first i.last _ _ c.args.stack c.from-place.result c.index-before.result.now linked c.requires c.from-place.ensures c.index-before.ensures in
    λ x e. let h = before_within i.after.items i.before.items i.first i.last _ _ c.args.stack linked c.requires x (sym before_is ∙ e) in omega (arith, h, i.after.ok.0, linked.after_room)

pub relink-requires-2 : goal.relink-requires-2
relink-requires-2 c =
    let i = c.self.inside in
    let linked = seen_linked i.after.items i.before.items i.first i.last c.args.self.now c.self.view_is c.self.invariant in
    let after_is = read_after i.after.items i.before.items i.first i.last _ _ c.args.stack c.from-place.result c.index-after.result.now linked c.requires c.from-place.ensures c.index-after.ensures in
    λ x e. let h = after_within i.after.items i.before.items i.first i.last _ _ c.args.stack linked c.requires x (sym after_is ∙ e) in omega (arith, h, i.before.ok.0, linked.before_room)

pub invariant_of-self : goal.invariant_of-self
invariant_of-self c =
    let i = c.self.inside in
    let linked = seen_linked i.after.items i.before.items i.first i.last c.args.self.now c.self.view_is c.self.invariant in
    let before_is = read_before i.after.items i.before.items i.first i.last _ _ c.args.stack c.from-place.result c.index-before.result.now linked c.requires c.from-place.ensures c.index-before.ensures in
    let after_is = read_after i.after.items i.before.items i.first i.last _ _ c.args.stack c.from-place.result c.index-after.result.now linked c.requires c.from-place.ensures c.index-after.ensures in
    IsLinked-walk _ _ _ _ _ _
    (removed i.after.items i.before.items i.first i.last _ _ c.args.stack c.index-before.result.now c.index-after.result.now c.relink.new.links.items c.relink-2.new.links.items c.relink.new.end c.relink-2.new.end linked c.requires before_is after_is c.relink.ensures.links c.relink.ensures.end c.relink-2.ensures.links c.relink-2.ensures.end)

pub returns : goal.returns
returns c =
    let i = c.self.inside in
    let linked = seen_linked i.after.items i.before.items i.first i.last c.args.self.now c.self.view_is c.self.invariant in
    let before_is = read_before i.after.items i.before.items i.first i.last _ _ c.args.stack c.from-place.result c.index-before.result.now linked c.requires c.from-place.ensures c.index-before.ensures in
    let after_is = read_after i.after.items i.before.items i.first i.last _ _ c.args.stack c.from-place.result c.index-after.result.now linked c.requires c.from-place.ensures c.index-after.ensures in
    seen_is _ _ _ _ _ _
    (removed i.after.items i.before.items i.first i.last _ _ c.args.stack c.index-before.result.now c.index-after.result.now c.relink.new.links.items c.relink-2.new.links.items c.relink.new.end c.relink-2.new.end linked c.requires before_is after_is c.relink.ensures.links c.relink.ensures.end c.relink-2.ensures.links c.relink-2.ensures.end)
