use Rattle.std.proofs.Common.{◌≡◌, drop}
use Rattle.run_replay.specs.Book.{since_of}
use Rattle.run_replay.proofs.book.since_of.Given as goal

-- the rest of the waiters decides
abbrev pub invariant-loop-waiter : goal.invariant-loop-waiter
invariant-loop-waiter l = since_of l.stack (drop l.waiter-index l.waiters) ≡ since_of l.stack l.waiters
