use Rattle.std.proofs.Common.{subst}
use Rattle.expression_rules.specs.Ranges.{ParametersInRange, bounds_of}
use Rattle.expression_rules.proofs.calls.Parameters.kind.Goals as goal

pub returns-in-Search : goal.returns-in-Search
returns-in-Search c = λ known. subst (ParametersInRange (bounds_of c.args.context.now)) c.in-Search.is known
