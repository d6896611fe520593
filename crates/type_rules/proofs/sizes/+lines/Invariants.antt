-- A call goes on to the statements of a block inside.
use Rattle.std.proofs.Common.{◌+◌, ◌*◌}
use Rattle.type_rules.proofs.sizes.+lines.Given as goal

abbrev pub decreases-block_size : goal.decreases-block_size
decreases-block_size l = 3 * l.depth

abbrev pub decreases-statement_size : goal.decreases-statement_size
decreases-statement_size l = 3 * l.depth + 2

abbrev pub decreases-branches_size : goal.decreases-branches_size
decreases-branches_size l = 3 * l.depth + 1
