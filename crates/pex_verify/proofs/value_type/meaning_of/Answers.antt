use Rattle.std.proofs.Common.{◌≡◌, Some, ap, sym, subst, ◌∙◌}
use Rattle.pex_meaning.specs.Names.{type_named}
use Rattle.pex_set.specs.Names.{number_in}
use Rattle.pex_verify.specs.TypesMeant.{IsLowered}
use Rattle.pex_verify.proofs.TypeNames.{array_type, element_lowered, own_lowered, plain_type}
use Rattle.pex_verify.proofs.value_type.meaning_of.Goals as goal

pub returns-in_ok-found-in-Some-clause-meant : goal.returns-in_ok-found-in-Some-clause-meant
returns-in_ok-found-in-Some-clause-meant c = λ scripts are is.
    let table = c.args.table.now in
    let named = c.name-name.ensures in
    let name = c.name-name.result.now in
    let element = c.in-Some.element.now in
    let suffix = c.in-Some.ensures.cases in
    let lowered : IsLowered name = subst IsLowered (sym named) (own_lowered table c.args.number is) in
    let numbered : Some c.args.number ≡ number_in table name = sym is ∙ ap (number_in table) (sym named) in
    let inner : IsLowered element = subst IsLowered (sym suffix.1) (element_lowered name _ lowered) in
    let outer_type = c.plain_meaning-plain.ensures.meant table scripts are numbered lowered in
    let inner_type = c.plain_meaning.ensures.meant table scripts are c.in_ok-found-in-Some.ensures inner in
    array_type scripts name element c.plain_meaning.result c.plain_meaning-plain.result c.array_or.result suffix.0 suffix.1 inner_type outer_type c.array_or.ensures.meant
    ∙ ap (type_named scripts) named

pub returns-in-None-clause-meant : goal.returns-in-None-clause-meant
returns-in-None-clause-meant c = λ scripts are is.
    let table = c.args.table.now in
    let named = c.name-name.ensures in
    let name = c.name-name.result.now in
    let lowered : IsLowered name = subst IsLowered (sym named) (own_lowered table c.args.number is) in
    let numbered : Some c.args.number ≡ number_in table name = sym is ∙ ap (number_in table) (sym named) in
    plain_type scripts name c.plain_meaning-plain.result c.in-None.ensures.cases (c.plain_meaning-plain.ensures.meant table scripts are numbered lowered)
    ∙ ap (type_named scripts) named
