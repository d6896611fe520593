use Rattle.pex_codec.proofs.Scans.{same_four, if_ok}
use Rattle.pex_codec.proofs.scan.put_opened.Goals as goal

pub returns : goal.returns
returns c =
    let o = c.args.opened.now in
    if_ok c.put-4.result _ _
    (λ last. same_four c.args.rest o.fourth o.third o.second c.args.tasks.now.items c.put.new.tasks.items c.put-2.new.tasks.items c.put-3.new.tasks.items c.put-4.new.tasks.items
    c.in_ok-put.ensures c.in_ok-put-2.ensures c.in_ok-put-3.ensures last)
    c.put-4.ensures
