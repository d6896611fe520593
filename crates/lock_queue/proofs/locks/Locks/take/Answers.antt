use Rattle.std.proofs.Common.{◌≡◌, ◌<◌, true, length, sym, subst, ◌∙◌}
use Rattle.std.proofs.Math.ListN.{length-set}
use Rattle.lock_queue.specs.declared.seat.Seat.TheVariants.{Waits}
use Rattle.lock_queue.specs.LockTable.{LockTable, seat_at, may_take}
use Rattle.lock_queue.proofs.AgreementLemmas.{is_first_some}
use Rattle.lock_queue.proofs.TransitionLemmas.{and_right}
use Rattle.lock_queue.proofs.ViewLemmas.{may_take_is, take_view}
use Rattle.lock_queue.proofs.CallLemmas.{taken}
use Rattle.lock_queue.proofs.locks.Locks.take.Goals as goal

pub pop-requires : goal.pop-requires
pop-requires c =
    let i = c.self.inside in
    let P : LockTable → Type 0 = λ t. may_take t c.args.stack c.args.instance ≡ true in
    let may = sym (may_take_is i.seats.items i.owners.items i.order i.queues i.ready.words.items c.args.stack c.args.instance (length i.owners.items) c.self.invariant) ∙ subst P (sym c.self.view_is) c.requires.first in
    is_first_some _ c.args.stack (and_right _ _ may)

pub invariant_of-self : goal.invariant_of-self
invariant_of-self c =
    let i = c.self.inside in
    let k = c.args.stack in
    let P : LockTable → Type 0 = λ t. may_take t k c.args.instance ≡ true in
    let Q : LockTable → Type 0 = λ t. k < length t.seats in
    let R : LockTable → Type 0 = λ t. c.args.instance < t.instances in
    let S : LockTable → Type 0 = λ t. seat_at t.seats k ≡ Waits c.args.instance in
    let may = sym (may_take_is i.seats.items i.owners.items i.order i.queues i.ready.words.items k c.args.instance (length i.owners.items) c.self.invariant) ∙ subst P (sym c.self.view_is) c.requires.first in
    taken i.seats.items i.owners.items i.order c.remove.new.self i.queues c.pop.new.self i.ready.words.items k c.args.instance c.from.result c.from-2.result c.self.invariant
    (subst Q (sym c.self.view_is) c.requires.stack_in) (subst R (sym c.self.view_is) c.requires.instance_in) (subst S (sym c.self.view_is) c.requires.waits) may
    c.from.ensures c.from-2.ensures c.remove.ensures c.pop.ensures

pub returns : goal.returns
returns c =
    let i = c.self.inside in
    take_view i.seats.items (length i.owners.items) _ i.order c.remove.new.self c.args.stack c.args.instance c.from.result c.args.self.now
    c.self.invariant.differ c.from.ensures (length-set i.owners.items c.from-2.result _) c.remove.ensures c.self.view_is
