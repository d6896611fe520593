use Rattle.expression_rules.proofs.scope.Context.typed.Goals as goal

pub returns : goal.returns
returns c = λ core kind. record { core = rw c.in_ok-core.ensures.ok core; kind = kind }
