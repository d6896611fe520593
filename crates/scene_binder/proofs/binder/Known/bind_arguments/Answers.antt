use Rattle.std.proofs.Common.{◌<◌, ◌≤◌, ◌∷◌, ◌++◌, [], take, length, sym, subst, arith}
use Rattle.std.proofs.lemmas.List.{take_more}
use Rattle.std.proofs.lemmas.List.Elements.{All-get_or, All-push}
use Rattle.scene_reader.specs.Limits.{ValueKeeps}
use Rattle.scene_binder.specs.Bound.{AreOfTypes}
use Rattle.scene_binder.specs.Limits.{IsShortValue}
use Rattle.scene_binder.specs.Meant.{IsValueMeant}
use Rattle.scene_binder.specs.Scope.{known_script}
use Rattle.scene_binder.proofs.JudgeLemmas.{judged_err}
use Rattle.scene_binder.proofs.ListLemmas.{AllZip-done, AllZip-next}
use Rattle.scene_binder.proofs.BoundLemmas.{AreOfTypes-push}
use Rattle.scene_binder.proofs.ValueLemmas.{fit_all, fit_more, unfit_count, unfit_here}
use Rattle.scene_binder.proofs.binder.Known.bind_arguments.Goals as goal

pub loop-place-preserved : goal.loop-place-preserved
loop-place-preserved c =
    let parameters = c.args.parameters.now in
    let arguments = c.args.arguments.now in
    let place = c.loop-place.place in
    let scripts = c.args.self.scripts.now in
    let instances = c.args.self.instances.now.scripts.items in
    let argument = c.index-arguments-place.result in
    let value = c.in_ok-value_for.field-0 in
    let lt : place < length parameters = omega arith in
    let last = c.in_ok-value_for.ensures in
    let before = c.loop-place.invariant in
    let script_of = known_script c.args.self.instances.now in
    rw c.in_ok-push.ensures.items (record {
      typed = subst (λ ks. AreOfTypes scripts instances ks (c.loop-place.bound.items ++ value ∷ [])) (sym (take_more parameters place _ lt)) (AreOfTypes-push scripts instances (take place parameters) c.loop-place.bound.items _ value before.typed last.typed);
      short = λ h.
          let own = subst ValueKeeps (sym c.index-arguments-place.is) (All-get_or ValueKeeps arguments place argument c.loop-place-test.true h) in
          All-push IsShortValue c.loop-place.bound.items value (before.short h) (last.short own);
      meant = λ named_instances named.
          AllZip-next (IsValueMeant named_instances) arguments c.loop-place.bound.items place argument value c.loop-place-test.true c.index-arguments-place.is (before.meant named_instances named) (last.meant named_instances named);
      judged = fit_more scripts script_of parameters arguments place _ argument lt c.loop-place-test.true c.index-arguments-place.is before.judged last.judged;
    })

pub returns-clause-meant : goal.returns-clause-meant
returns-clause-meant c = λ instances named.
    AllZip-done (IsValueMeant instances) c.args.arguments.now c.loop-place.bound.items c.loop-place.place c.loop-place-test.false (c.loop-place.invariant.meant instances named)

pub returns-in_err-value_for-clause-judged : goal.returns-in_err-value_for-clause-judged
returns-in_err-value_for-clause-judged c =
    let parameters = c.args.parameters.now in
    let place = c.loop-place.place in
    let lt : place < length parameters = omega arith in
    let fault = c.in_err-value_for.field-0.0 in
    let script_of = known_script c.args.self.instances.now in
    judged_err c.from_residual-in_err-value_for.result _ fault c.from_residual-in_err-value_for.ensures.1 (unfit_here c.args.self.scripts.now script_of parameters c.args.arguments.now place _ c.index-arguments-place.result fault lt c.loop-place-test.true c.index-arguments-place.is c.loop-place.invariant.judged c.in_err-value_for.ensures.judged)

pub returns-clause-judged : goal.returns-clause-judged
returns-clause-judged c =
    let parameters = c.args.parameters.now in
    let place = c.loop-place.place in
    let past : length parameters ≤ place = omega arith in
    fit_all c.args.self.scripts.now (known_script c.args.self.instances.now) parameters c.args.arguments.now place past c.loop-place-test.false c.loop-place.invariant.judged

pub returns-then-arguments-parameters-clause-judged : goal.returns-then-arguments-parameters-clause-judged
returns-then-arguments-parameters-clause-judged c =
    unfit_count c.args.self.scripts.now (known_script c.args.self.instances.now) c.args.parameters.now c.args.arguments.now c.of.result c.if-arguments-parameters.true c.of.ensures
