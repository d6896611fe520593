use Rattle.std.proofs.Common.{◌≡◌, ◌+◌, drop}
use Rattle.std.specs.List.{prefix_len}
use Rattle.run_replay.specs.Book.{is_other}
use Rattle.run_replay.proofs.book.place_among.Given as goal

-- the waiters so far are others, and the rest's front follows them
abbrev pub invariant-loop-at : goal.invariant-loop-at
invariant-loop-at l = l.at + prefix_len (is_other l.stack) (drop l.at l.waiters) ≡ prefix_len (is_other l.stack) l.waiters
