use Rattle.std.proofs.Common.{subst}
use Rattle.type_scope.specs.Scope.{KindInRange}
use Rattle.expression_rules.proofs.names.element_kind.Goals as goal

pub returns-in-Of : goal.returns-in-Of
returns-in-Of c = λ functions known. c.element.ensures.in_range functions (subst (KindInRange functions) c.in-Of.is known)
