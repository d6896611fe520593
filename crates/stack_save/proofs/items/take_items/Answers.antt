use Rattle.std.proofs.Common.{◌+◌, List, subst, sym}
use Rattle.std.specs.List.{flat_map}
use Rattle.std.specs.declared.alloc.Global.{Global}
use Rattle.std.specs.declared.vec.Vec.{Vec}
use Rattle.std.proofs.lemmas.Result.{err_from_is_err_and}
use Rattle.stack_save.proofs.Lists.{TookFirst, TookFirst-missing, TookFirst-more, err_taken}
use Rattle.stack_save.proofs.items.take_items.Goals as goal
use Rattle.stack_save.specs.Parts.{AreItems, IsPart}
use Rattle.stack_save.specs.Reading.{items_at}

pub returns-in_err-item : goal.returns-in_err-item
returns-in_err-item g c =
    let part = g.T.Item in
    let old = c.args.cursor.now.rest.now in
    let rest = c.items.cursor.rest.now in
    let new = c.take.new.cursor.rest.now in
    let p = err_from_is_err_and c.from_residual-in_err-item.result c.from_residual-in_err-item.ensures.1 in
    err_taken c.in_err-item.field-0.0 p.0 c.from_residual-in_err-item.result part.plain (IsPart part.savable part.in_range) part.spelling part.at
    (λ (items : Vec g.row.T.Denot Global). part.plain_each items.items) (AreItems c.args.count part.savable part.in_range) (flat_map part.spelling) (items_at part.at c.args.count)
    rest new old new p.1 p.2 c.in_err-item.ensures
    (TookFirst-missing part.savable part.in_range part.spelling part.at part.plain old c.args.count c.items.counter c.items.items.items rest c.items.invariant c.items-test.true)

pub items-preserved : goal.items-preserved
items-preserved g c =
    let part = g.T.Item in
    let old = c.args.cursor.now.rest.now in
    let new = c.take.new.cursor.rest.now in
    subst (λ (items : List g.row.T.Denot). TookFirst part.savable part.in_range part.spelling part.at part.plain old c.args.count (c.items.counter + 1) items new) (sym c.in_ok-push.ensures.items)
    (TookFirst-more part.savable part.in_range part.spelling part.at part.plain old c.args.count c.items.counter c.items.items.items c.items.cursor.rest.now c.in_ok-item.item new c.items.invariant c.items-test.true c.in_ok-item.ensures)
