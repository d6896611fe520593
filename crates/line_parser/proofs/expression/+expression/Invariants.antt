-- A call goes on to a part of the grammar that binds tighter, or into brackets; each turn of a loop takes a token.
use Rattle.std.proofs.Common.{◌+◌, ◌-◌, ◌*◌, ◌<◌, ◌≤◌, length}
use Rattle.line_parser.proofs.expression.+expression.Given as goal

abbrev pub decreases-expression : goal.decreases-expression
decreases-expression l = 30 * l.depth + 20

abbrev pub decreases-operands : goal.decreases-operands
decreases-operands l = 30 * l.depth + 7 + 2 * (6 - l.least)

abbrev pub decreases-unary : goal.decreases-unary
decreases-unary l = 30 * l.depth + 5

abbrev pub decreases-cast : goal.decreases-cast
decreases-cast l = 30 * l.depth + 3

abbrev pub decreases-link : goal.decreases-link
decreases-link l = 30 * l.depth + 2

abbrev pub decreases-member : goal.decreases-member
decreases-member l = 30 * l.depth + 1

abbrev pub decreases-bracketed : goal.decreases-bracketed
decreases-bracketed l = 30 * l.depth + 0

abbrev pub decreases-atom : goal.decreases-atom
decreases-atom l = 30 * l.depth + 2

abbrev pub decreases-call : goal.decreases-call
decreases-call l = 30 * l.depth + 1

abbrev pub decreases-arguments : goal.decreases-arguments
decreases-arguments l = 30 * l.depth + 0

abbrev pub invariant-operands-signs : goal.invariant-operands-signs
invariant-operands-signs l = length l.cursor.rest.now < length l.fn.cursor.rest.now

abbrev pub decreases-operands-signs : goal.decreases-operands-signs
decreases-operands-signs l = length l.cursor.rest.now

abbrev pub invariant-cast-links : goal.invariant-cast-links
invariant-cast-links l = length l.cursor.rest.now < length l.fn.cursor.rest.now

abbrev pub decreases-cast-links : goal.decreases-cast-links
decreases-cast-links l = length l.cursor.rest.now

abbrev pub invariant-arguments-arguments : goal.invariant-arguments-arguments
invariant-arguments-arguments l = length l.cursor.rest.now ≤ length l.fn.cursor.rest.now

abbrev pub decreases-arguments-arguments : goal.decreases-arguments-arguments
decreases-arguments-arguments l = length l.cursor.rest.now
