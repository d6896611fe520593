use Rattle.type_rules.proofs.Types.{known-in_range}
use Rattle.type_rules.specs.Ranges.{functions_of}
use Rattle.type_rules.proofs.members.declared_variable.Goals as goal

pub returns-clause-in_range : goal.returns-clause-in_range
returns-clause-in_range c =
    (rw c.known.ensures (known-in_range (functions_of c.args.work.now) c.kind_at-kind.result c.kind_at-kind.ensures.in_range), c.in_ok-first_value.ensures.in_range)
