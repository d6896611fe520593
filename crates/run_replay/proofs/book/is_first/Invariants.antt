use Rattle.std.proofs.Common.{◌≡◌, drop}
use Rattle.run_replay.specs.Book.{is_first}
use Rattle.run_replay.proofs.book.is_first.Given as goal

-- the rest of the waiters decides
abbrev pub invariant-loop-waiter : goal.invariant-loop-waiter
invariant-loop-waiter l = is_first l.instance l.stack (drop l.waiter-index l.waiters) ≡ is_first l.instance l.stack l.waiters
