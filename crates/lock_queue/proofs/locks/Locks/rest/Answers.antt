use Rattle.std.proofs.Common.{◌≡◌, ◌<◌, length, sym, refl, subst, ◌∙◌, arith}
use Rattle.lock_queue.specs.declared.seat.Seat.TheVariants.{Resting, Free}
use Rattle.lock_queue.specs.LockTable.{LockTable, seat_at, IsIdle}
use Rattle.lock_queue.proofs.AgreementLemmas.{free_waits}
use Rattle.lock_queue.proofs.TransitionLemmas.{unlisted}
use Rattle.lock_queue.proofs.ViewLemmas.{idle_view}
use Rattle.lock_queue.proofs.CallLemmas.{rested}
use Rattle.lock_queue.proofs.locks.Locks.rest.Goals as goal

pub invariant_of-self : goal.invariant_of-self
invariant_of-self c =
    let i = c.self.inside in
    let k = c.args.stack in
    let P : LockTable → Type 0 = λ t. seat_at t.seats k ≡ Free in
    let Q : LockTable → Type 0 = λ t. k < length t.seats in
    let seat : seat_at i.seats.items k ≡ Free = subst P (sym c.self.view_is) c.requires.free in
    let idle : IsIdle (seat_at i.seats.items k) = subst IsIdle (sym seat) (refl, refl) in
    rested i.seats.items i.owners.items i.order i.queues i.ready.words.items c.set.new.self.words.items k c.from.result c.self.invariant
    (subst Q (sym c.self.view_is) c.requires.stack_in) idle
    (omega (arith, c.set.ensures.room, c.set.new.self.words.ok.0, i.ready.words.ok.0)) c.set.ensures.members c.from.ensures

pub returns : goal.returns
returns c =
    let i = c.self.inside in
    let k = c.args.stack in
    let P : LockTable → Type 0 = λ t. seat_at t.seats k ≡ Free in
    let seat : seat_at i.seats.items k ≡ Free = subst P (sym c.self.view_is) c.requires.free in
    idle_view i.seats.items (length i.owners.items) (length i.owners.items) i.order.stacks k c.from.result Resting c.args.self.now
    (unlisted i.seats.items i.owners.items i.order i.queues i.ready.words.items k c.self.invariant (λ n e. free_waits n (sym seat ∙ e)))
    c.from.ensures refl c.self.view_is
