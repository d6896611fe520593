use Rattle.std.proofs.Common.{◌≡◌, IfSome, Some, sym, ap, subst, ◌∙◌}
use Rattle.std.specs.Option.{option_map}
use Rattle.papy_base.specs.Case.{folded}
use Rattle.core_tree.specs.declared.value.Value.TheVariants as values
use Rattle.papy_base.specs.Table.{number_in}
use Rattle.scene_binder.proofs.binder.Known.instance_for.Goals as goal

pub returns-in-Some-clause-meant : goal.returns-in-Some-clause-meant
returns-in-Some-clause-meant c = λ instances named.
    let bytes = folded c.args.name.now in
    let found = subst (λ o. IfSome o (λ n. number_in c.args.self.instances.now.names bytes ≡ Some n)) c.in-Some.is c.in_ok-number.ensures.named in
    ap (option_map (λ n. values.Instance n)) (sym (named bytes) ∙ found)
