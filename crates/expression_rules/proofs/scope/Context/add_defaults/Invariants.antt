-- The arguments so far are in range.
use Rattle.expression_rules.specs.Ranges.{ArgumentsInRange, ParametersInRange, bounds_of, parameter_count}
use Rattle.expression_rules.proofs.scope.Context.add_defaults.Given as goal

abbrev pub invariant-loop-place : goal.invariant-loop-place
invariant-loop-place l =
    ParametersInRange (bounds_of l.self) l.parameters → ArgumentsInRange (bounds_of l.self) (parameter_count l.parameters) l.fn.found → ArgumentsInRange (bounds_of l.self) (parameter_count l.parameters) l.found
