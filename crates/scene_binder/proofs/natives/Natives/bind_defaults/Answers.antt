use Rattle.std.proofs.Common.{◌≤◌, ◌∙◌, ◌∷◌, [], lit≤, refl, subst, sym}
use Rattle.std.specs.Prelude.{codes}
use Rattle.core_tree.specs.declared.scene_tree.Binding.TheVariants as bindings
use Rattle.scene_binder.specs.Faults.{IsFirstBroken, IsJudgedBy}
use Rattle.std.proofs.lemmas.Result.{on_ok_weaker}
use Rattle.scene_binder.proofs.JudgeLemmas.{first_here, first_later, judged_end, judged_err, judged_later}
use Rattle.scene_binder.proofs.StateLemmas.{AreSettled-default, default_told}
use Rattle.scene_binder.proofs.natives.Natives.bind_defaults.Goals as goal

pub returns-clause-limits : goal.returns-clause-limits
returns-clause-limits c =
    let zero : 0 ≤ 1000000 = lit≤ tt in
    λ h. c.bind_default-3.ensures.limits zero (c.bind_default-2.ensures.limits tt (c.bind_default.ensures.limits zero h))

pub returns-in_err-bind_default-clause-meant : goal.returns-in_err-bind_default-clause-meant
returns-in_err-bind_default-clause-meant c = λ scripts entries h meant.
    c.bind_default.ensures.meant scripts entries refl h meant

pub returns-in_err-bind_default-2-clause-meant : goal.returns-in_err-bind_default-2-clause-meant
returns-in_err-bind_default-2-clause-meant c = λ scripts entries h meant.
    c.bind_default-2.ensures.meant scripts entries refl (c.bind_default.ensures.natives scripts h) (c.bind_default.ensures.meant scripts entries refl h meant)

pub returns-clause-meant : goal.returns-clause-meant
returns-clause-meant c = λ scripts entries h meant.
    let first = c.bind_default.ensures in
    let second = c.bind_default-2.ensures in
    c.bind_default-3.ensures.meant scripts entries refl (second.natives scripts (first.natives scripts h)) (second.meant scripts entries refl (first.natives scripts h) (first.meant scripts entries refl h meant))

pub returns-in_err-bind_default-clause-judged : goal.returns-in_err-bind_default-clause-judged
returns-in_err-bind_default-clause-judged c = λ scripts entries h state.
    let old = c.args.self.now in
    let fault = c.in_err-bind_default.field-0.0 in
    let told = default_told scripts old old.devices entries (codes "Debug.Trace") (bindings.Trace 0) [] h refl refl state in
    judged_err c.from_residual.result _ fault c.from_residual.ensures.1 (first_here _ _ fault (subst (IsFirstBroken fault) told c.in_err-bind_default.ensures.judged))

pub returns-in_err-bind_default-2-clause-judged : goal.returns-in_err-bind_default-2-clause-judged
returns-in_err-bind_default-2-clause-judged c = λ scripts entries h state.
    let old = c.args.self.now in
    let first = c.bind_default.new.self in
    let trace = codes "Debug.Trace" in
    let fault = c.in_err-bind_default-2.field-0.0 in
    let told = default_told scripts old old.devices entries trace (bindings.Trace 0) [] h refl refl state in
    let natives = c.bind_default.ensures.natives scripts h in
    let traced = AreSettled-default scripts old first trace (bindings.Trace 0) entries [] h refl c.in_ok-bind_default.ensures.binds state in
    let second = default_told scripts first old.devices entries (codes "Scene.Sleep") bindings.Sleep ((trace, bindings.Trace 0) ∷ []) natives c.bind_default.ensures.devices refl traced in
    judged_err c.from_residual-in_err-bind_default-2.result _ fault c.from_residual-in_err-bind_default-2.ensures.1 (first_later _ _ fault (sym told ∙ c.in_ok-bind_default.ensures.judged) (first_here _ _ fault (subst (IsFirstBroken fault) second c.in_err-bind_default-2.ensures.judged)))

pub returns-clause-judged : goal.returns-clause-judged
returns-clause-judged c = λ scripts entries h state.
    let old = c.args.self.now in
    let first = c.bind_default.new.self in
    let mid = c.bind_default-2.new.self in
    let trace = codes "Debug.Trace" in
    let sleep = codes "Scene.Sleep" in
    let told = default_told scripts old old.devices entries trace (bindings.Trace 0) [] h refl refl state in
    let natives = c.bind_default.ensures.natives scripts h in
    let traced = AreSettled-default scripts old first trace (bindings.Trace 0) entries [] h refl c.in_ok-bind_default.ensures.binds state in
    let second = default_told scripts first old.devices entries sleep bindings.Sleep ((trace, bindings.Trace 0) ∷ []) natives c.bind_default.ensures.devices refl traced in
    let slept = AreSettled-default scripts first mid sleep bindings.Sleep entries ((trace, bindings.Trace 0) ∷ []) natives refl c.in_ok-bind_default-2.ensures.binds traced in
    let third = default_told scripts mid old.devices entries (codes "Utility.RandomInt") (bindings.Device 3 0) ((trace, bindings.Trace 0) ∷ (sleep, bindings.Sleep) ∷ []) (c.bind_default-2.ensures.natives scripts natives) (c.bind_default-2.ensures.devices ∙ c.bind_default.ensures.devices) refl slept in
    judged_later _ _ c.bind_default-3.result (sym told ∙ c.in_ok-bind_default.ensures.judged) (judged_later _ _ c.bind_default-3.result (sym second ∙ c.in_ok-bind_default-2.ensures.judged) (judged_end _ c.bind_default-3.result (subst (λ rules. IsJudgedBy rules c.bind_default-3.result) third c.bind_default-3.ensures.judged)))

pub returns-clause-settled : goal.returns-clause-settled
returns-clause-settled c =
    let old = c.args.self.now in
    let first = c.bind_default.new.self in
    let mid = c.bind_default-2.new.self in
    let trace = codes "Debug.Trace" in
    let sleep = codes "Scene.Sleep" in
    on_ok_weaker c.bind_default-3.result (λ binds scripts entries h state.
    let natives = c.bind_default.ensures.natives scripts h in
    let traced = AreSettled-default scripts old first trace (bindings.Trace 0) entries [] h refl c.in_ok-bind_default.ensures.binds state in
    let slept = AreSettled-default scripts first mid sleep bindings.Sleep entries ((trace, bindings.Trace 0) ∷ []) natives refl c.in_ok-bind_default-2.ensures.binds traced in
    AreSettled-default scripts mid c.bind_default-3.new.self (codes "Utility.RandomInt") (bindings.Device 3 0) entries ((trace, bindings.Trace 0) ∷ (sleep, bindings.Sleep) ∷ []) (c.bind_default-2.ensures.natives scripts natives) refl binds slept)
    c.bind_default-3.ensures.binds
