use Rattle.std.proofs.Common.{◌≡◌, ℕ, ◌<◌, length, Some, sym, subst, ap, ◌∙◌}
use Rattle.lock_queue.specs.declared.seat.Seat.TheVariants.{Waits, Holds}
use Rattle.lock_queue.specs.LockTable.{LockTable, seat_of, owner_of, pairs_of, pairs_if, waits_for}
use Rattle.lock_queue.proofs.ViewLemmas.{owner_is, pairs_is}
use Rattle.lock_queue.proofs.locks.Locks.seats_agree.Goals as goal

pub returns-clause-waiters : goal.returns-clause-waiters
returns-clause-waiters c = λ k.
    let i = c.self.inside in
    let P : LockTable → Type 0 = λ t. pairs_of t k ≡ pairs_if k (waits_for (seat_of t k)) in
    subst P c.self.view_is (pairs_is i.seats.items i.owners.items i.order i.queues i.ready.words.items k c.self.invariant)

pub returns-clause-owners : goal.returns-clause-owners
returns-clause-owners c =
    let i = c.self.inside in
    let P : LockTable → Type 0 = λ t. (k instance : ℕ) → seat_of t k ≡ Holds instance → owner_of t instance ≡ Some k in
    subst P c.self.view_is (λ k instance seat. owner_is i.seats.items i.owners.items i.order i.queues i.ready.words.items instance c.self.invariant ∙ (c.self.invariant).owned k instance seat)

pub returns-clause-held : goal.returns-clause-held
returns-clause-held c =
    let i = c.self.inside in
    let P : LockTable → Type 0 = λ t. (k instance : ℕ) → seat_of t k ≡ Holds instance → instance < t.instances in
    subst P c.self.view_is (c.self.invariant).holds_within

pub returns-clause-awaited : goal.returns-clause-awaited
returns-clause-awaited c =
    let i = c.self.inside in
    let P : LockTable → Type 0 = λ t. (k instance : ℕ) → seat_of t k ≡ Waits instance → instance < t.instances in
    subst P c.self.view_is (c.self.invariant).waits_within

pub returns-clause-few : goal.returns-clause-few
returns-clause-few c =
    let P : LockTable → Type 0 = λ t. length t.seats < 65536 in
    subst P c.self.view_is (c.self.invariant).bounded
