use Rattle.std.proofs.Common.{◌≡◌, ◌+◌, ◌*◌, ◌≤◌, ◌^◌, ℕ, drop, map}
use Rattle.std.specs.Prelude.{slice_index}
use Rattle.run_replay.specs.Book.{counted}
use Rattle.run_replay.proofs.book.Book.into_waits.Given as goal

-- the waiters so far are counted
abbrev pub invariant-loop-waiter : goal.invariant-loop-waiter
invariant-loop-waiter l = record {
  names : map (λ p. p.0) l.instances.items ≡ map (λ p. p.0) l.initial.instances.items;
  counts : counted (drop l.waiter-index l.waiter-items) l.turns (map (λ p. p.1) l.instances.items) ≡ counted l.waiter-items l.turns (map (λ p. p.1) l.initial.instances.items);
  room : (i : ℕ) → slice_index (map (λ p. p.1) l.instances.items) i ≤ 2 ^ 62 + l.waiter-index * 2 ^ 32;
}
