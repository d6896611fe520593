use Rattle.std.proofs.Common.{◌≡◌, ◌+◌, drop}
use Rattle.std.specs.List.{prefix_len}
use Rattle.run_replay.specs.Lines.{is_not}
use Rattle.run_replay.proofs.reader.len_before.Given as goal

-- the bytes so far stand before the sign, and the rest's front follows them
abbrev pub invariant-loop-at : goal.invariant-loop-at
invariant-loop-at l = l.at + prefix_len (is_not l.sign) (drop l.at l.bytes) ≡ prefix_len (is_not l.sign) l.bytes
