use Rattle.std.proofs.Common.{◌≡◌, List, [], ◌∷◌, ◌++◌, map, Option, IfSome, vec_len, ap, sym, subst, ◌∙◌}
use Rattle.std.proofs.lemmas.List.{map-append}
use Rattle.core_tree.specs.declared.core_type.CoreType.{CoreType}
use Rattle.core_tree.specs.declared.outline.OutlineVariable.{OutlineVariable}
use Rattle.pex_verify.specs.declared.value_type.ValueType.{ValueType}
use Rattle.pex_verify.specs.Meanings.{of_result, value_meaning}
use Rattle.pex_verify.specs.Types.{IsTypeAmong}
use Rattle.pex_verify.specs.Variables.{variable_type, type_of_variable, IsVariable, AreVariables}
use Rattle.pex_values.specs.declared.values.PexVariable.{PexVariable}
use Rattle.pex_verify.proofs.Lists.{all_grown}
use Rattle.pex_verify.proofs.Pairs.{Paired-push}
use Rattle.pex_verify.proofs.object.load_variable.Goals as goal

pub returns-clause-typed : goal.returns-clause-typed
returns-clause-typed c = λ old.
    let count = vec_len c.args.loader.now.set.now.heads in
    let IsTyped : OutlineVariable → Type 0 = λ variable. IsTypeAmong count variable.kind in
    let variable : OutlineVariable = record { name = c.in_ok-title.title; kind = c.in-Some.kind; value = c.in_ok-value.value } in
    let typed : IsTypeAmong count c.in-Some.kind = subst (λ (found : Option CoreType). IfSome found (IsTypeAmong count)) c.in-Some.is (c.in_ok-kind.ensures.among count c.value_type-declared.ensures.among) in
    all_grown IsTyped c.args.variables.now.list.items c.add.new.self.list.items variable c.in_ok-add.ensures old typed

pub returns-clause-kinds : goal.returns-clause-kinds
returns-clause-kinds c =
    let before = c.args.variables.now.list.items in
    let variable : OutlineVariable = record { name = c.in_ok-title.title; kind = c.in-Some.kind; value = c.in_ok-value.value } in
    let here : variable_type variable ≡ type_of_variable c.args.loader.now.set.now.types c.args.source.now.names.now c.args.variable.now =
    subst (λ (found : Option CoreType). of_result found ≡ c.value_type-declared.result) c.in-Some.is c.in_ok-kind.ensures.known
    ∙ c.value_type-declared.ensures.meaning
    ∙ ap (value_meaning c.args.loader.now.set.now.types) c.number.ensures in
    ap (map variable_type) c.in_ok-add.ensures
    ∙ map-append variable_type before (variable ∷ [])
    ∙ ap (λ (kind : ValueType). map variable_type before ++ kind ∷ []) here

pub returns-clause-initial : goal.returns-clause-initial
returns-clause-initial c = λ before old.
    let source = c.args.source.now in
    let variable : OutlineVariable = record { name = c.in_ok-title.title; kind = c.in-Some.kind; value = c.in_ok-value.value } in
    let here : IsVariable source c.args.variable.now variable =
    record { name = c.in_ok-title.ensures; value = c.in_ok-value.ensures.value; fits = c.in_ok-value.ensures.fits } in
    subst (λ (l : List OutlineVariable). AreVariables source (before ++ c.args.variable.now ∷ []) l) (sym c.in_ok-add.ensures)
    (Paired-push PexVariable OutlineVariable (λ n v l. IsVariable source v l) before c.args.variables.now.list.items c.args.variable.now variable old here)
