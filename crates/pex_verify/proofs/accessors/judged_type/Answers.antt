use Rattle.std.proofs.Common.{◌≡◌, Option, IfSome, vec_len, ap, subst, ◌∙◌}
use Rattle.core_tree.specs.declared.core_type.CoreType.{CoreType}
use Rattle.pex_verify.specs.Meanings.{of_result, value_meaning}
use Rattle.pex_verify.specs.Types.{IsTypeAmong}
use Rattle.pex_verify.proofs.accessors.judged_type.Goals as goal

pub returns-in-Some-clause-among : goal.returns-in-Some-clause-among
returns-in-Some-clause-among c =
    let count = vec_len c.args.home.now.set.now.heads in
    subst (λ (found : Option CoreType). IfSome found (IsTypeAmong count)) c.in-Some.is (c.in_ok-found.ensures.among count c.value_type-declared.ensures.among)

pub returns-in-Some-clause-meaning : goal.returns-in-Some-clause-meaning
returns-in-Some-clause-meaning c =
    subst (λ (found : Option CoreType). of_result found ≡ c.value_type-declared.result) c.in-Some.is c.in_ok-found.ensures.known
    ∙ c.value_type-declared.ensures.meaning
    ∙ ap (value_meaning c.args.home.now.set.now.types) c.number.ensures
