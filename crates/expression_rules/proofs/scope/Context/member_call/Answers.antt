use Rattle.expression_rules.specs.Ranges.{bounds_of}
use Rattle.expression_rules.proofs.scope.Context.member_call.Goals as goal

pub returns-in-Some : goal.returns-in-Some
returns-in-Some c = λ of given. c.search_call.ensures of.core (c.in-Some.ensures (bounds_of c.args.self.now).functions of.kind) given
