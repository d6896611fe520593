use Rattle.std.proofs.Common.{◌≡◌, ◌<◌, length, sym, subst, ◌∙◌, arith}
use Rattle.std.proofs.Math.ListN.{length-set}
use Rattle.lock_queue.specs.declared.seat.Seat.TheVariants.{Resting, Holds}
use Rattle.lock_queue.specs.LockTable.{LockTable, seat_at}
use Rattle.lock_queue.proofs.AgreementLemmas.{holds_waits}
use Rattle.lock_queue.proofs.TransitionLemmas.{unlisted, first_within}
use Rattle.lock_queue.proofs.ViewLemmas.{read_seat, idle_view}
use Rattle.lock_queue.proofs.CallLemmas.{released}
use Rattle.lock_queue.proofs.locks.Locks.release.Goals as goal

pub insert-requires : goal.insert-requires
insert-requires c =
    let i = c.self.inside in
    λ x e. let h = first_within i.seats.items i.owners.items i.order i.queues i.ready.words.items c.in-Holds.instance x c.self.invariant (sym c.first.ensures ∙ e) in
    omega (arith, h, c.self.invariant.words_room, c.set.ensures.room, i.ready.words.ok.0)

pub invariant_of-self : goal.invariant_of-self
invariant_of-self c =
    let i = c.self.inside in
    let k = c.args.stack in
    let Q : LockTable → Type 0 = λ t. k < length t.seats in
    let within : k < length i.seats.items = subst Q (sym c.self.view_is) c.requires.stack_in in
    let place_is = c.from.ensures in
    let seat : seat_at i.seats.items k ≡ Holds c.in-Holds.instance = sym (read_seat i.seats.items c.from.result k c.index.result.now c.from.ensures (omega arith) c.index.ensures) ∙ c.in-Holds.is in
    released i.seats.items i.owners.items i.order i.queues i.ready.words.items c.set.new.self.words.items c.insert.new.self.words.items k c.in-Holds.instance c.from-2.result c.from-3.result c.first.result c.self.invariant within seat
    (omega (arith, c.set.ensures.room, c.insert.ensures.room, c.insert.new.self.words.ok.0, i.ready.words.ok.0)) c.set.ensures.members c.insert.ensures.members c.first.ensures c.from-2.ensures c.from-3.ensures

pub returns : goal.returns
returns c =
    let i = c.self.inside in
    let k = c.args.stack in
    let Q : LockTable → Type 0 = λ t. k < length t.seats in
    let within : k < length i.seats.items = subst Q (sym c.self.view_is) c.requires.stack_in in
    let place_is = c.from.ensures in
    let seat : seat_at i.seats.items k ≡ Holds c.in-Holds.instance = sym (read_seat i.seats.items c.from.result k c.index.result.now c.from.ensures (omega arith) c.index.ensures) ∙ c.in-Holds.is in
    idle_view i.seats.items (length i.owners.items) _ i.order.stacks k c.from-2.result Resting c.args.self.now
    (unlisted i.seats.items i.owners.items i.order i.queues i.ready.words.items k c.self.invariant (λ n e. holds_waits c.in-Holds.instance n (sym seat ∙ e)))
    c.from-2.ensures (length-set i.owners.items c.from-3.result _) c.self.view_is
