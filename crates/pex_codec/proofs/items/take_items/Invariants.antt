use Rattle.pex_codec.proofs.Taken.{TookFirst}
use Rattle.pex_codec.proofs.items.take_items.Given as goal

abbrev pub invariant-items : goal.invariant-items
invariant-items g l = TookFirst g.T.Item.plain (g.T.Item.at l.strings) l.count l.initial.cursor l.counter l.items.items l.cursor
