use Rattle.stack_save.proofs.Lists.{PutFirst}
use Rattle.stack_save.proofs.items.put_items.Given as goal

abbrev pub invariant-loop-item : goal.invariant-loop-item
invariant-loop-item g l = PutFirst g.T.Item.in_range g.T.Item.spelling g.T.Item.plain l.initial.out.items l.items l.item-index l.out.items
