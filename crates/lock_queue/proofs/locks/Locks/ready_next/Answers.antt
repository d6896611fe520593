use Rattle.std.proofs.Common.{Some, None, length, ◌∙◌, arith}
use Rattle.lock_queue.proofs.ViewLemmas.{next_ready, next_below}
use Rattle.lock_queue.proofs.locks.Locks.ready_next.Goals as goal

pub returns-in_err-stack : goal.returns-in_err-stack
returns-in_err-stack c =
    let i = c.self.inside in
    c.from_residual.ensures
    ∙ next_ready i.seats.items i.owners.items i.order i.queues i.ready.words.items (length i.owners.items) c.start_from.result c.args.last None c.args.self.now c.self.invariant c.self.view_is c.start_from.ensures c.requires c.in_err-stack.ensures

pub overflow_cast-result : goal.overflow_cast-result
overflow_cast-result c =
    let i = c.self.inside in
    let h = next_below i.seats.items i.owners.items i.order i.queues i.ready.words.items (length i.owners.items) c.start_from.result c.in_ok-stack.stack c.args.last c.args.self.now c.self.invariant c.self.view_is c.start_from.ensures c.requires c.in_ok-stack.ensures in
    omega (arith, h)

pub returns : goal.returns
returns c =
    let i = c.self.inside in
    next_ready i.seats.items i.owners.items i.order i.queues i.ready.words.items (length i.owners.items) c.start_from.result c.args.last (Some c.in_ok-stack.stack) c.args.self.now c.self.invariant c.self.view_is c.start_from.ensures c.requires c.in_ok-stack.ensures
