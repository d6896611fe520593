use Rattle.std.proofs.Common.{List, subst}
use Rattle.std.specs.List.{AllByRecursion}
use Rattle.stack_save.proofs.Lists.{each_at}
use Rattle.stack_save.proofs.items.put_items.Goals as goal

pub put-requires : goal.put-requires
put-requires g c =
    let each = subst (λ (xs : List g.T.Item.Plain). AllByRecursion g.T.Item.savable xs) (g.met.T.Item.each c.args.items.now) c.requires in
    each_at g.T.Item.savable g.T.Item.plain c.args.items.now c.loop-item.item-index c.item-item.result each c.loop-item-test.true c.item-item.is
