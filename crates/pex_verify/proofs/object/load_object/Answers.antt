use Rattle.std.proofs.Common.{Result, Ok, Err, IfOk, map, ap, sym, subst, ◌∙◌}
use Rattle.pex_verify.specs.Variables.{variable_type, AreVariables}
use Rattle.pex_verify.proofs.object.load_object.Goals as goal

both : {T E : Type 0} (r : Result T E) (P Q R : T → Type 0) → ((x : T) → P x → Q x → R x) → IfOk r P → IfOk r Q → IfOk r R
both (Ok x) P Q R step p q = step x p q
both (Err e) P Q R step p q = tt

pub returns-clause-object : goal.returns-clause-object
returns-clause-object c =
    both c.load_script.result _ _ _
    (λ loaded object variables. record { object = object; variables = ap (map variable_type) variables ∙ c.in_ok-load_variables.ensures.kinds; initial = subst (AreVariables c.args.source.now c.args.object.now.variables.items) (sym variables) c.in_ok-load_variables.ensures.initial })
    c.load_script.ensures.object c.load_script.ensures.variables
