use Rattle.stack_save.proofs.Lists.{TookFirst}
use Rattle.stack_save.proofs.items.take_items.Given as goal

abbrev pub invariant-items : goal.invariant-items
invariant-items g l = TookFirst g.T.Item.savable g.T.Item.in_range g.T.Item.spelling g.T.Item.at g.T.Item.plain l.initial.cursor.rest.now l.count l.counter l.items.items l.cursor.rest.now
