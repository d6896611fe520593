use Rattle.std.proofs.Common.{sym, subst}
use Rattle.std.proofs.lemmas.List.Elements.{All-get_or, All-push}
use Rattle.scene_reader.specs.Limits.{CallKeeps}
use Rattle.scene_binder.specs.Bound.{IsBoundCall, call_parts}
use Rattle.scene_binder.specs.Faults.{call_breaks}
use Rattle.scene_binder.specs.Instances.{tree_call_parts}
use Rattle.scene_binder.specs.Limits.{CallKeepsLimits}
use Rattle.scene_binder.specs.Meant.{IsCallMeant}
use Rattle.scene_binder.specs.Scope.{known_script}
use Rattle.scene_binder.proofs.JudgeLemmas.{each_broken, each_done, each_passed, judged_err}
use Rattle.scene_binder.proofs.ListLemmas.{AllZip-done, AllZip-next, map-push}
use Rattle.scene_binder.proofs.binder.Known.bind_calls.Goals as goal

pub loop-call-preserved : goal.loop-call-preserved
loop-call-preserved c =
    let scripts = c.args.self.scripts.now in
    let instances = c.args.self.instances.now.scripts.items in
    let calls = c.args.calls.now in
    let call = c.call-item.result in
    let place = c.loop-call.call-index in
    let bound = c.loop-call.bound.items in
    let last = c.in_ok-bind_call in
    let before = c.loop-call.invariant in
    let lt = c.loop-call-test.true in
    rw c.in_ok-push.ensures.items (record {
      bound = All-push (IsBoundCall scripts instances) bound last.field-0 before.bound last.ensures.bound;
      parts = map-push call_parts tree_call_parts bound calls place last.field-0 call before.parts lt c.call-item.is last.ensures.parts;
      limits = λ h.
          let own = subst CallKeeps (sym c.call-item.is) (All-get_or CallKeeps calls place call lt h) in
          All-push CallKeepsLimits bound last.field-0 (before.limits h) (last.ensures.limits own);
      meant = λ named_instances named.
          AllZip-next (IsCallMeant named_instances) calls bound place call last.field-0 lt c.call-item.is (before.meant named_instances named) (last.ensures.meant named_instances named);
      judged = each_passed (call_breaks scripts (known_script c.args.self.instances.now)) calls place call lt c.call-item.is before.judged last.ensures.judged;
    })

pub returns-clause-meant : goal.returns-clause-meant
returns-clause-meant c = λ instances named.
    AllZip-done (IsCallMeant instances) c.args.calls.now c.loop-call.bound.items c.loop-call.call-index c.loop-call-test.false (c.loop-call.invariant.meant instances named)

pub returns-in_err-bind_call-clause-judged : goal.returns-in_err-bind_call-clause-judged
returns-in_err-bind_call-clause-judged c =
    let breaks = call_breaks c.args.self.scripts.now (known_script c.args.self.instances.now) in
    let fault = c.in_err-bind_call.field-0.0 in
    judged_err c.from_residual-in_err-bind_call.result _ fault c.from_residual-in_err-bind_call.ensures.1 (each_broken breaks c.args.calls.now c.loop-call.call-index c.call-item.result fault c.loop-call-test.true c.call-item.is c.loop-call.invariant.judged c.in_err-bind_call.ensures.judged)

pub returns-clause-judged : goal.returns-clause-judged
returns-clause-judged c =
    each_done (call_breaks c.args.self.scripts.now (known_script c.args.self.instances.now)) c.args.calls.now c.loop-call.call-index c.loop-call-test.false c.loop-call.invariant.judged
