use Rattle.std.proofs.Common.{ℕ, ◌≡◌, ◌<◌, [], Some, length, get_or, sym, subst, arith}
use Rattle.std.proofs.lemmas.List.Elements.{All-get_or, All-push}
use Rattle.scene_reader.specs.Limits.{InstanceKeeps}
use Rattle.scene_binder.specs.Bound.{IsBoundInstance, instance_name, script_of}
use Rattle.scene_binder.specs.Faults.{IsFirstBroken, entry_breaks, in_turn, set_breaks}
use Rattle.scene_binder.specs.Instances.{tree_name, tree_script}
use Rattle.scene_binder.specs.Limits.{InstanceKeepsLimits}
use Rattle.scene_binder.specs.Scope.{IsSetOf, known_script}
use Rattle.scene_binder.proofs.JudgeLemmas.{each_broken, each_done, each_passed, judged_err}
use Rattle.scene_binder.proofs.ListLemmas.{AllZip-done, AllZip-next, map-push, take-push}
use Rattle.scene_binder.proofs.ValueLemmas.{same_at}
use Rattle.scene_binder.proofs.binder.Known.bind_instances.Goals as goal

pub loop-number-preserved : goal.loop-number-preserved
loop-number-preserved c =
    let scripts = c.args.self.scripts.now in
    let instances = c.args.self.instances.now.scripts.items in
    let listed = c.args.instances.now in
    let number = c.loop-number.number in
    let instance = c.index-instances-number.result in
    let bound = c.loop-number.bound.items in
    let last = c.in_ok-bind_instance in
    let before = c.loop-number.invariant in
    let lt = c.loop-number-test.true in
    let inside : number < length instances = omega (arith, c.requires.count) in
    let at : script_of last.field-0 ≡ get_or instances number (script_of last.field-0) = cc (last.ensures.script, c.index-script.ensures) in
    rw c.in_ok-push.ensures.items (record {
      bound = All-push (IsBoundInstance scripts instances) bound last.field-0 before.bound last.ensures.bound;
      scripts = take-push script_of bound instances number last.field-0 before.scripts inside at;
      names = map-push instance_name tree_name bound listed number last.field-0 instance before.names lt c.index-instances-number.is last.ensures.name;
      limits = λ h.
          let own = subst InstanceKeeps (sym c.index-instances-number.is) (All-get_or InstanceKeeps listed number instance lt h) in
          All-push InstanceKeepsLimits bound last.field-0 (before.limits h) (last.ensures.limits own);
      meant = λ named_instances named.
          AllZip-next (IsSetOf scripts named_instances) listed bound number instance last.field-0 lt c.index-instances-number.is (before.meant named_instances named) (last.ensures.meant named_instances named);
      judged = λ named.
          let script_of = known_script c.args.self.instances.now in
          let script = c.index-script.result.now in
          let own : script ≡ get_or instances number script = cc (c.index-script.ensures) in
          let is = same_at {X = ℕ} (λ n. Some n) (tree_script scripts) instances listed number script instance named inside lt own c.index-instances-number.is in
          let none = subst (λ s. in_turn (entry_breaks scripts script_of s) [] instance.set.items ≡ []) is last.ensures.judged in
          each_passed (set_breaks scripts script_of) listed number instance lt c.index-instances-number.is (before.judged named) none;
    })

pub returns-clause-meant : goal.returns-clause-meant
returns-clause-meant c = λ instances named.
    AllZip-done (IsSetOf c.args.self.scripts.now instances) c.args.instances.now c.loop-number.bound.items c.loop-number.number c.loop-number-test.false (c.loop-number.invariant.meant instances named)

pub returns-in_err-bind_instance-clause-judged : goal.returns-in_err-bind_instance-clause-judged
returns-in_err-bind_instance-clause-judged c = λ named.
    let scripts = c.args.self.scripts.now in
    let instances = c.args.self.instances.now.scripts.items in
    let listed = c.args.instances.now in
    let number = c.loop-number.number in
    let instance = c.index-instances-number.result in
    let script_of = known_script c.args.self.instances.now in
    let script = c.index-script.result.now in
    let lt = c.loop-number-test.true in
    let inside : number < length instances = omega (arith, c.requires.count) in
    let own : script ≡ get_or instances number script = cc (c.index-script.ensures) in
    let fault = c.in_err-bind_instance.field-0.0 in
    let is = same_at {X = ℕ} (λ n. Some n) (tree_script scripts) instances listed number script instance named inside lt own c.index-instances-number.is in
    let broken = subst (λ s. IsFirstBroken fault (in_turn (entry_breaks scripts script_of s) [] instance.set.items)) is c.in_err-bind_instance.ensures.judged in
    judged_err c.from_residual-in_err-bind_instance.result _ fault c.from_residual-in_err-bind_instance.ensures.1 (each_broken (set_breaks scripts script_of) listed number instance fault lt c.index-instances-number.is (c.loop-number.invariant.judged named) broken)

pub returns-clause-judged : goal.returns-clause-judged
returns-clause-judged c = λ named.
    each_done (set_breaks c.args.self.scripts.now (known_script c.args.self.instances.now)) c.args.instances.now c.loop-number.number c.loop-number-test.false (c.loop-number.invariant.judged named)
