-- The arguments that are left, and those that were placed, are in range; each turn takes one.
use Rattle.std.proofs.Common.{vec_len}
use Rattle.expression_rules.specs.Ranges.{GivenInRange, ParametersInRange, ArgumentsInRange, bounds_of, parameter_count}
use Rattle.expression_rules.proofs.scope.Context.place_arguments.Given as goal

abbrev pub invariant-given : goal.invariant-given
invariant-given l =
    GivenInRange (bounds_of l.self) l.fn.given.items → ParametersInRange (bounds_of l.self) l.parameters → GivenInRange (bounds_of l.self) l.given.items × ArgumentsInRange (bounds_of l.self) (parameter_count l.parameters) l.found

abbrev pub decreases-given : goal.decreases-given
decreases-given l = vec_len l.given
