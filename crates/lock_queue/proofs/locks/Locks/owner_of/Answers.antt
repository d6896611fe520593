use Rattle.std.proofs.Common.{◌<◌, length, sym, subst, ap, ◌∙◌, arith}
use Rattle.lock_queue.specs.LockTable.{LockTable, owner_of}
use Rattle.lock_queue.proofs.OrderLemmas.{read_link}
use Rattle.lock_queue.proofs.ViewLemmas.{owner_is}
use Rattle.lock_queue.proofs.locks.Locks.owner_of.Goals as goal

pub returns : goal.returns
returns c =
    let i = c.self.inside in
    let P : LockTable → Type 0 = λ t. c.args.instance < t.instances in
    let within : c.args.instance < length i.owners.items = subst P (sym c.self.view_is) c.requires in
    let e = c.from.ensures in
    read_link i.owners.items c.from.result c.args.instance c.index.result.now c.from.ensures (omega arith) c.index.ensures
    ∙ sym (owner_is i.seats.items i.owners.items i.order i.queues i.ready.words.items c.args.instance c.self.invariant)
    ∙ ap (λ t. owner_of t c.args.instance) c.self.view_is
