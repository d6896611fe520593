use Rattle.std.proofs.Common.{◌≡◌, ℕ, ◌+◌, ◌*◌, ◌<◌, ◌≤◌, false}
use Rattle.lock_queue.specs.Ready.{is_member}
use Rattle.lock_queue.proofs.ready.ReadySet.first_from.Given as goal

-- no number is a member from the start up to the place that is read next
abbrev pub invariant-loop-index : goal.invariant-loop-index
invariant-loop-index l = record {
  in_word : l.from < 64;
  beyond_start : l.start ≤ 64 * l.index + l.from;
  none_before : (j : ℕ) → l.start ≤ j → j < 64 * l.index + l.from → is_member l.self.words.items j ≡ false;
}
