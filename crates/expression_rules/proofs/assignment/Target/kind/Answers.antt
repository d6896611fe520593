use Rattle.std.proofs.Common.{subst}
use Rattle.expression_rules.specs.Ranges.{TargetInRange}
use Rattle.expression_rules.proofs.assignment.Target.kind.Goals as goal

pub returns-in-Local : goal.returns-in-Local
returns-in-Local c = λ b known. (subst (TargetInRange b) c.in-Local.is known).1

pub returns-in-Field : goal.returns-in-Field
returns-in-Field c = λ b known. (subst (TargetInRange b) c.in-Field.is known).1

pub returns-in-Property : goal.returns-in-Property
returns-in-Property c = λ b known. (subst (TargetInRange b) c.in-Property.is known).1

pub returns-in-Element : goal.returns-in-Element
returns-in-Element c = λ b known. (subst (TargetInRange b) c.in-Element.is known).2
