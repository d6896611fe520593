use Rattle.std.proofs.Common.{◌<◌, length, nat_eq, Some, is_some, sym, subst, ap, ◌∙◌, arith}
use Rattle.std.specs.Option.{option_eq}
use Rattle.lock_queue.specs.Links.{link_at}
use Rattle.lock_queue.specs.Queues.{queue_at}
use Rattle.lock_queue.specs.LockTable.{LockTable, may_take}
use Rattle.lock_queue.proofs.OrderLemmas.{read_link}
use Rattle.lock_queue.proofs.ViewLemmas.{may_take_is, may_then, may_else}
use Rattle.lock_queue.proofs.locks.Locks.may_take.Goals as goal

pub returns-then-is_none : goal.returns-then-is_none
returns-then-is_none c =
    let i = c.self.inside in
    let P : LockTable → Type 0 = λ t. c.args.instance < t.instances in
    let within : c.args.instance < length i.owners.items = subst P (sym c.self.view_is) c.requires.instance_in in
    let e = c.from.ensures in
    let read = read_link i.owners.items c.from.result c.args.instance c.index.result.now c.from.ensures (omega arith) c.index.ensures in
    c.eq.ensures ∙ ap (λ o. option_eq nat_eq o (Some c.args.stack)) c.first.ensures
    ∙ may_then (link_at i.owners.items c.args.instance) (queue_at i.queues.lists c.args.instance) c.args.stack (ap is_some (sym read) ∙ c.if-is_none.ensures)
    ∙ sym (may_take_is i.seats.items i.owners.items i.order i.queues i.ready.words.items c.args.stack c.args.instance (length i.owners.items) c.self.invariant)
    ∙ ap (λ t. may_take t c.args.stack c.args.instance) c.self.view_is

pub returns-else-is_none : goal.returns-else-is_none
returns-else-is_none c =
    let i = c.self.inside in
    let P : LockTable → Type 0 = λ t. c.args.instance < t.instances in
    let within : c.args.instance < length i.owners.items = subst P (sym c.self.view_is) c.requires.instance_in in
    let e = c.from.ensures in
    let read = read_link i.owners.items c.from.result c.args.instance c.index.result.now c.from.ensures (omega arith) c.index.ensures in
    c.if-is_none.false
    ∙ may_else (link_at i.owners.items c.args.instance) (queue_at i.queues.lists c.args.instance) c.args.stack (ap is_some (sym read) ∙ c.if-is_none.ensures)
    ∙ sym (may_take_is i.seats.items i.owners.items i.order i.queues i.ready.words.items c.args.stack c.args.instance (length i.owners.items) c.self.invariant)
    ∙ ap (λ t. may_take t c.args.stack c.args.instance) c.self.view_is
