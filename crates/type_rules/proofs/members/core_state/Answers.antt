use Rattle.std.proofs.lemmas.List.Elements.{All-map}
use Rattle.core_tree.specs.InRange.{FunctionInRange}
use Rattle.core_tree.specs.Set.{function_of}
use Rattle.type_rules.specs.Ranges.{functions_of, variables_of}
use Rattle.type_rules.proofs.members.core_state.Goals as goal

pub returns-clause-in_range : goal.returns-clause-in_range
returns-clause-in_range c = λ r.
    All-map (FunctionInRange (functions_of c.args.work.now) (variables_of c.args.work.now)) function_of c.in_ok-functions.functions.items (c.in_ok-functions.ensures.in_range r)
