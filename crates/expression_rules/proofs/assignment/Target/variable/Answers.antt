use Rattle.std.proofs.Common.{subst}
use Rattle.core_tree.proofs.Views.{expression_views}
use Rattle.expression_rules.specs.Ranges.{TargetInRange}
use Rattle.expression_rules.proofs.assignment.Target.variable.Goals as goal

pub returns-in-Local : goal.returns-in-Local
returns-in-Local c = λ b known. simp expression_views (subst (TargetInRange b) c.in-Local.is known).0

pub returns-in-Field : goal.returns-in-Field
returns-in-Field c = λ b known. simp expression_views (subst (TargetInRange b) c.in-Field.is known).0

pub returns-in-State : goal.returns-in-State
returns-in-State c = λ b known. simp expression_views tt
