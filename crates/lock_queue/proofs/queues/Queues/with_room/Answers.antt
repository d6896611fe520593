use Rattle.std.proofs.Common.{rules}
use Rattle.lock_queue.proofs.QueueLemmas.{seen_is, made_queues, AreQueues-walk}
use Rattle.lock_queue.proofs.queues.Queues.with_room.Goals as goal

pub invariant_of-result : goal.invariant_of-result
invariant_of-result c =
    AreQueues-walk _ _ _ _ _ (made_queues c.in_ok-vec.field-0.items c.in_ok-vec-2.field-0.items c.in_ok-vec-3.field-0.items c.args.room c.args.instances (search rules) (search rules) (search rules))

pub returns : goal.returns
returns c =
    seen_is _ _ _ _ _ (made_queues c.in_ok-vec.field-0.items c.in_ok-vec-2.field-0.items c.in_ok-vec-3.field-0.items c.args.room c.args.instances (search rules) (search rules) (search rules))
