use Rattle.std.specs.declared.alloc.Global.{Global}
use Rattle.std.specs.declared.vec.Vec.{Vec}
use Rattle.std.proofs.lemmas.Result.{err_from_is_err_and}
use Rattle.pex_codec.proofs.Taken.{TookFirst-more, TookFirst-stops, err_taken}
use Rattle.pex_codec.proofs.items.take_items.Goals as goal
use Rattle.pex_codec.specs.Reading.{items_at}

pub returns-in_err-item-clause-taken : goal.returns-in_err-item-clause-taken
returns-in_err-item-clause-taken g c =
    let item = g.T.Item in
    let at = item.at c.args.strings in
    let p = err_from_is_err_and c.from_residual-in_err-item.result c.from_residual-in_err-item.ensures.1 in
    err_taken c.in_err-item.field-0.0 p.0 c.from_residual-in_err-item.result item.plain at
    (λ (items : Vec g.row.T.Denot Global). item.plain_each items.items) (items_at at c.args.count)
    c.items.cursor c.take.new.cursor c.args.cursor.now c.take.new.cursor p.1 p.2
    (TookFirst-stops item.plain at c.args.count c.args.cursor.now c.items.counter c.items.items.items c.items.cursor c.in_err-item.field-0.0 c.items.invariant c.items-test.true)
    c.in_err-item.ensures

pub items-preserved : goal.items-preserved
items-preserved g c =
    TookFirst-more g.T.Item.plain (g.T.Item.at c.args.strings) c.args.count c.args.cursor.now c.items.counter c.items.items.items c.push.new.self.items c.items.cursor c.in_ok-item.item c.take.new.cursor
    c.items.invariant c.items-test.true c.in_ok-item.ensures c.in_ok-push.ensures.items
