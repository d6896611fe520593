use Rattle.std.proofs.Common.{◌≡◌, ◌≤◌, ◌∙◌, ap, arith, length, map, vec_len}
use Rattle.std.specs.List.{All}
use Rattle.std.proofs.lemmas.List.{length-map}
use Rattle.core_tree.specs.InRange.{TypeInRange}
use Rattle.expression_rules.specs.Scopes.{scope_bounds}
use Rattle.type_rules.proofs.Scopes.{grown-promise, keeps-in_range, kept-promise, opened-in_range}
use Rattle.type_rules.proofs.Types.{types-in_range}
use Rattle.type_rules.specs.Ranges.{known}
use Rattle.type_rules.proofs.functions.core_function.Goals as goal

pub returns-clause-in_range : goal.returns-clause-in_range
returns-clause-in_range c = λ r.
    let work = c.args.work.now in
    let opened = c.open_scope-scope.result in
    let promised = c.promise_of-promise.new.scope in
    let added = c.add_parameters.new.scope in
    let judged = c.core_body.new.scope in
    let kept = c.promise_of-promise.ensures.kept in
    let grows = c.in_ok-add_parameters.ensures.grows in
    let further = c.in_ok-body.ensures.grows in
    let promise = c.promise_of-promise.result in
    let parameters = c.in_ok-parameters.parameters in
    let first = opened-in_range work opened c.open_scope-scope.ensures.catalog c.open_scope-scope.ensures.script c.open_scope-scope.ensures.locals r in
    let before = grows.in_range (keeps-in_range opened promised kept first) in
    let kinds = added.locals.kinds.items in
    let types : parameters.items ≡ map known kinds = c.in_ok-parameters.ensures ∙ ap (map known) c.as_slice-kinds.ensures.value in
    let count : length parameters.items ≡ length kinds = ap length types ∙ length-map kinds known in
    let few : vec_len parameters ≤ vec_len judged.locals.kinds = omega (arith, count, further.locals, parameters.ok.0, added.locals.kinds.ok.0) in
    let in_range : All (TypeInRange (scope_bounds judged).functions) parameters.items =
    rw further.catalog (types-in_range (scope_bounds added).functions kinds parameters.items types before.locals) in
    let promise_there = grown-promise promised added grows promise (kept-promise opened promised kept promise c.promise_of-promise.ensures.in_range) in
    let block = c.in_ok-body.ensures.in_range before promise_there in
    let made = c.in_ok-made.ensures.in_range (further.in_range before) few in_range (grown-promise added judged further promise promise_there) block in
    let catalog : judged.catalog ≡ work.catalog = cc (further.catalog, grows.catalog, kept.catalog, c.open_scope-scope.ensures.catalog) in
    let layout : judged.layout ≡ work.layout = cc (further.layout, grows.layout, kept.layout, c.open_scope-scope.ensures.layout) in
    rw (catalog, layout) at made
