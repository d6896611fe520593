use Rattle.std.proofs.Common.{◌≡◌, ◌++◌, reverse, length}
use Rattle.papy_base.proofs.WalkLemmas.{IsWalk}
use Rattle.papy_base.proofs.descent.order_of.Given as goal

abbrev pub invariant-loop : goal.invariant-loop
invariant-loop l = record {
  ranks : length l.order.items ≡ l.counter;
  walk : IsWalk l.parents l.links.last.items l.links.before.items l.order.items (l.order.items ++ reverse l.open.items);
}
