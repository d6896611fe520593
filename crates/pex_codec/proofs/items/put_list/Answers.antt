use Rattle.pex_codec.proofs.Lists.{Writes-listed}
use Rattle.pex_codec.proofs.items.put_list.Goals as goal

pub returns : goal.returns
returns g c =
    let item = g.T.Item in
    Writes-listed c.put_each.result c.args.out.now.items c.put_each.new.out.items item.fits item.list_fits item.spelling item.plain c.args.items.now (item.plain_each c.args.items.now) (g.met.T.Item.each c.args.items.now) g.met.T.Item.listed c.put_each.ensures
