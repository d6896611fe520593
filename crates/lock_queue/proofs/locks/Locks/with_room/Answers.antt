use Rattle.std.proofs.Common.{rules, arith}
use Rattle.lock_queue.proofs.CallLemmas.{made}
use Rattle.lock_queue.proofs.locks.Locks.with_room.Goals as goal

pub invariant_of-result : goal.invariant_of-result
invariant_of-result c =
    made c.in_ok-vec.field-0.items c.in_ok-vec-2.field-0.items c.in_ok-with_room.field-0 c.in_ok-with_room-2.field-0 c.in_ok-with_room-3.field-0.words.items c.args.stacks c.args.instances
    (search rules) (search rules) (omega arith) (omega (arith, c.in_ok-with_room-3.ensures.room, c.in_ok-with_room-3.field-0.words.ok.0)) c.in_ok-with_room-3.ensures.empty c.in_ok-with_room.ensures c.in_ok-with_room-2.ensures
