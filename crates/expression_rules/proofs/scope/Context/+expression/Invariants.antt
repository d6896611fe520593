-- An operand, an index or an argument is one level deeper; each turn of the loop does one step.
use Rattle.std.proofs.Common.{◌+◌, ◌*◌, length, vec_len}
use Rattle.std.specs.Prelude.{option_to_list}
use Rattle.expression_rules.specs.Ranges.{TypedInRange, GivenInRange, ContextInRange, bounds_of}
use Rattle.expression_rules.proofs.scope.Context.+expression.Given as goal

abbrev pub decreases-expression : goal.decreases-expression
decreases-expression l = 4 * l.depth

abbrev pub decreases-first : goal.decreases-first
decreases-first l = 4 * l.depth + 3

abbrev pub decreases-word : goal.decreases-word
decreases-word l = 4 * l.depth + 2

abbrev pub decreases-step : goal.decreases-step
decreases-step l = 4 * l.depth + 2

abbrev pub decreases-given : goal.decreases-given
decreases-given l = 4 * l.depth + 1

abbrev pub invariant-expression-steps : goal.invariant-expression-steps
invariant-expression-steps l = ContextInRange l.self → TypedInRange (bounds_of l.self) l.value

abbrev pub decreases-expression-steps : goal.decreases-expression-steps
decreases-expression-steps l = length (option_to_list l.step) + vec_len l.further

abbrev pub invariant-given-loop-argument : goal.invariant-given-loop-argument
invariant-given-loop-argument l = ContextInRange l.self → GivenInRange (bounds_of l.self) l.found.items
