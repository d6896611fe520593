use Rattle.std.proofs.Common.{◌≤◌, ◌<◌, ◌+◌, ◌-◌, ◌^◌, length}
use Rattle.body_runner.specs.Rows.{IsCodedIn, Reaches}
use Rattle.body_runner.specs.Sights.{IsThere}
use Rattle.body_runner.proofs.body.Home.run_row.Given as goal

abbrev pub invariant-loop-place : goal.invariant-loop-place
invariant-loop-place l = record {
  ahead : l.fn.from ≤ l.place;
  room : l.place + 1 < 2 ^ 64;
  ran : IsThere l.fn.self.instance l.fn.inner.store.now.instances → IsCodedIn l.fn.self → Reaches l.fn.self l.fn.from l.place l.fn.inner l.inner;
}

abbrev pub decreases-loop-place : goal.decreases-loop-place
decreases-loop-place l = length l.code - l.place
