use Rattle.pex_codec.proofs.Lists.{WroteFirst}
use Rattle.pex_codec.proofs.items.put_each.Given as goal

abbrev pub invariant-loop-item : goal.invariant-loop-item
invariant-loop-item g l = WroteFirst (λ item. g.T.Item.fits (g.T.Item.plain item)) (λ item. g.T.Item.spelling (g.T.Item.plain item)) l.initial.out.items l.items l.item-index l.out.items
