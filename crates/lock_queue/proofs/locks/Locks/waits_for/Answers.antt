use Rattle.std.proofs.Common.{◌≡◌, subst}
use Rattle.lock_queue.specs.LockTable.{LockTable, seat_of, waits_for, pairs_of, pairs_if}
use Rattle.lock_queue.proofs.ViewLemmas.{pairs_is}
use Rattle.lock_queue.proofs.locks.Locks.waits_for.Goals as goal

pub returns-in-Waits-clause-pairs : goal.returns-in-Waits-clause-pairs
returns-in-Waits-clause-pairs c =
    let i = c.self.inside in
    let P : LockTable → Type 0 = λ t. pairs_of t c.args.stack ≡ pairs_if c.args.stack (waits_for (seat_of t c.args.stack)) in
    subst P c.self.view_is (pairs_is i.seats.items i.owners.items i.order i.queues i.ready.words.items c.args.stack c.self.invariant)

pub returns-in_default-clause-pairs : goal.returns-in_default-clause-pairs
returns-in_default-clause-pairs c =
    let i = c.self.inside in
    let P : LockTable → Type 0 = λ t. pairs_of t c.args.stack ≡ pairs_if c.args.stack (waits_for (seat_of t c.args.stack)) in
    subst P c.self.view_is (pairs_is i.seats.items i.owners.items i.order i.queues i.ready.words.items c.args.stack c.self.invariant)
