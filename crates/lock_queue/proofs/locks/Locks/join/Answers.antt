use Rattle.std.proofs.Common.{◌<◌, ◌&&◌, is_none, length, sym, subst, ap, ◌∙◌, arith}
use Rattle.lock_queue.specs.Links.{link_at}
use Rattle.lock_queue.specs.LockTable.{LockTable, seat_at, IsIdle}
use Rattle.lock_queue.proofs.AgreementLemmas.{idle_waits}
use Rattle.lock_queue.proofs.OrderLemmas.{read_link}
use Rattle.lock_queue.proofs.TransitionLemmas.{unlisted, queues_lack}
use Rattle.lock_queue.proofs.ViewLemmas.{join_view}
use Rattle.lock_queue.proofs.CallLemmas.{joined}
use Rattle.lock_queue.proofs.locks.Locks.join.Goals as goal

pub push-requires-clause-new : goal.push-requires-clause-new
push-requires-clause-new c =
    let i = c.self.inside in
    let k = c.args.stack in
    let P : LockTable → Type 0 = λ t. IsIdle (seat_at t.seats k) in
    let idle : IsIdle (seat_at i.seats.items k) = subst P (sym c.self.view_is) c.requires.idle in
    unlisted i.seats.items i.owners.items i.order i.queues i.ready.words.items k c.self.invariant (λ n e. idle_waits (seat_at i.seats.items k) n idle e)

pub push-requires-2-clause-new : goal.push-requires-2-clause-new
push-requires-2-clause-new c =
    let i = c.self.inside in
    let k = c.args.stack in
    let P : LockTable → Type 0 = λ t. IsIdle (seat_at t.seats k) in
    let idle : IsIdle (seat_at i.seats.items k) = subst P (sym c.self.view_is) c.requires.idle in
    queues_lack i.seats.items i.owners.items i.order i.queues i.ready.words.items k c.self.invariant
    (unlisted i.seats.items i.owners.items i.order i.queues i.ready.words.items k c.self.invariant (λ n e. idle_waits (seat_at i.seats.items k) n idle e))

pub invariant_of-self : goal.invariant_of-self
invariant_of-self c =
    let i = c.self.inside in
    let k = c.args.stack in
    let P : LockTable → Type 0 = λ t. IsIdle (seat_at t.seats k) in
    let Q : LockTable → Type 0 = λ t. k < length t.seats in
    let R : LockTable → Type 0 = λ t. c.args.instance < t.instances in
    let within : c.args.instance < length i.owners.items = subst R (sym c.self.view_is) c.requires.instance_in in
    let e = c.from.ensures in
    let read = read_link i.owners.items c.from.result c.args.instance c.index-owner.result.now c.from.ensures (omega arith) c.index-owner.ensures in
    let b_is = c.is_open-starts_ready.ensures ∙ ap (λ o. is_none o && is_none c.first.result) read ∙ ap (λ o. is_none (link_at i.owners.items c.args.instance) && is_none o) c.first.ensures in
    joined i.seats.items i.owners.items i.order c.push.new.self i.queues c.push-2.new.self i.ready.words.items c.set.new.self.words.items k c.args.instance c.from-2.result c.is_open-starts_ready.result c.self.invariant
    (subst Q (sym c.self.view_is) c.requires.stack_in) within (subst P (sym c.self.view_is) c.requires.idle) b_is
    (omega (arith, c.set.ensures.room, c.set.new.self.words.ok.0, i.ready.words.ok.0)) c.set.ensures.members c.from-2.ensures c.push.ensures c.push-2.ensures

pub returns : goal.returns
returns c =
    let i = c.self.inside in
    let k = c.args.stack in
    let P : LockTable → Type 0 = λ t. IsIdle (seat_at t.seats k) in
    let Q : LockTable → Type 0 = λ t. k < length t.seats in
    let idle : IsIdle (seat_at i.seats.items k) = subst P (sym c.self.view_is) c.requires.idle in
    join_view i.seats.items (length i.owners.items) i.order c.push.new.self k c.args.instance c.from-2.result c.args.self.now
    (subst Q (sym c.self.view_is) c.requires.stack_in)
    (unlisted i.seats.items i.owners.items i.order i.queues i.ready.words.items k c.self.invariant (λ n e. idle_waits (seat_at i.seats.items k) n idle e))
    c.from-2.ensures c.push.ensures c.self.view_is
