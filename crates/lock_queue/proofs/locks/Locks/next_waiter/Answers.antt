use Rattle.std.proofs.Common.{Some, IsSome, sym, subst, ap, ◌∙◌}
use Rattle.lock_queue.specs.LockTable.{LockTable, seat_of, waits_for, waiter_after}
use Rattle.lock_queue.proofs.ViewLemmas.{waits_some, waiter_after-of}
use Rattle.lock_queue.proofs.locks.Locks.next_waiter.Goals as goal

pub next-requires : goal.next-requires
next-requires c =
    let i = c.self.inside in
    let P : LockTable → Type 0 = λ t. IsSome (waits_for (seat_of t c.in-Some.stack)) in
    let waits = waits_some _ (subst P (sym c.self.view_is) (c.requires c.in-Some.stack c.in-Some.is)) in
    c.self.invariant.listed c.in-Some.stack waits.0 waits.1

pub returns-in-Some : goal.returns-in-Some
returns-in-Some c =
    let i = c.self.inside in
    c.next.ensures ∙ sym (waiter_after-of i.seats.items i.order.stacks c.in-Some.stack)
    ∙ ap (λ (t : LockTable). waiter_after t.waiters (Some c.in-Some.stack)) c.self.view_is
    ∙ ap (waiter_after c.args.self.now.waiters) (sym c.in-Some.is)
