use Rattle.std.proofs.Common.{◌≡◌, [], Some, take, length-append, is_none, subst, sym, arith}
use Rattle.std.proofs.lemmas.List.Elements.{All-push}
use Rattle.scene_reader.specs.declared.fault.SceneRule.TheVariants.{DuplicateName, NoScript}
use Rattle.scene_binder.specs.Faults.{IsFirstBroken, broken, instance_breaks, instantiable}
use Rattle.scene_binder.specs.Instances.{IsInstantiable, tree_name, tree_script}
use Rattle.scene_binder.specs.Members.{script_named}
use Rattle.scene_binder.proofs.JudgeLemmas.{broken_same, first_here, first_later, judged_err, none_later, none_same, turn_broken, turn_passed, turns_done}
use Rattle.scene_binder.proofs.ListLemmas.{map-push}
use Rattle.scene_binder.proofs.NameLemmas.{IsPlaceTable-next, is_taken-same}
use Rattle.scene_binder.proofs.binder.NamedInstances.new.Goals as goal

pub loop-number-preserved : goal.loop-number-preserved
loop-number-preserved c =
    let scripts = c.args.outline.now in
    let instances = c.args.instances.now in
    let number = c.loop-number.number in
    let instance = c.index-instances-number.result in
    let found = c.loop-number.scripts.items in
    let last = c.in_ok-find_instantiable in
    let script_is = subst (λ name. script_named scripts name ≡ Some last.field-0) c.as_bytes.ensures last.ensures.named in
    let before = c.loop-number.invariant in
    let lt = c.loop-number-test.true in
    let is = c.index-instances-number.is in
    let old = c.loop-number.names in
    let new = c.note_new.new.names in
    let free = none_same DuplicateName _ _ (is_taken-same tree_name (take number instances) old instance.name before.named) c.in_ok-note_new.ensures.judged in
    let there = subst (λ name. broken NoScript (is_none (instantiable scripts name)) ≡ []) c.as_bytes.ensures last.ensures.judged in
    rw c.in_ok-push.ensures.items (record {
      count = simp length-append (omega (arith, before.count));
      scripts = All-push (IsInstantiable scripts) found last.field-0 before.scripts last.ensures.there;
      named = IsPlaceTable-next tree_name instances number instance old new lt is before.named c.in_ok-note_new.ensures.noted;
      scripts_named = map-push (λ n. Some n) (tree_script scripts) found instances number last.field-0 instance before.scripts_named lt is (sym script_is);
      judged = turn_passed (instance_breaks scripts) instances number instance lt is before.judged (none_later _ _ free there);
    })

pub returns-in_err-note_new-clause-judged : goal.returns-in_err-note_new-clause-judged
returns-in_err-note_new-clause-judged c =
    let breaks = instance_breaks c.args.outline.now in
    let instances = c.args.instances.now in
    let number = c.loop-number.number in
    let instance = c.index-instances-number.result in
    let before = c.loop-number.invariant in
    let fault = c.in_err-note_new.field-0.0 in
    let taken = broken_same DuplicateName _ _ (is_taken-same tree_name (take number instances) c.loop-number.names instance.name before.named) fault c.in_err-note_new.ensures.judged in
    judged_err c.from_residual-in_err-note_new.result _ fault c.from_residual-in_err-note_new.ensures.1 (turn_broken breaks instances number instance fault c.loop-number-test.true c.index-instances-number.is before.judged (first_here _ _ fault taken))

pub returns-in_err-find_instantiable-clause-judged : goal.returns-in_err-find_instantiable-clause-judged
returns-in_err-find_instantiable-clause-judged c =
    let scripts = c.args.outline.now in
    let instances = c.args.instances.now in
    let number = c.loop-number.number in
    let instance = c.index-instances-number.result in
    let before = c.loop-number.invariant in
    let fault = c.in_err-find_instantiable.field-0.0 in
    let free = none_same DuplicateName _ _ (is_taken-same tree_name (take number instances) c.loop-number.names instance.name before.named) c.in_ok-note_new.ensures.judged in
    let none = subst (λ name. IsFirstBroken fault (broken NoScript (is_none (instantiable scripts name)))) c.as_bytes.ensures c.in_err-find_instantiable.ensures.judged in
    judged_err c.from_residual-in_err-find_instantiable.result _ fault c.from_residual-in_err-find_instantiable.ensures.1 (turn_broken (instance_breaks scripts) instances number instance fault c.loop-number-test.true c.index-instances-number.is before.judged (first_later _ _ fault free none))

pub returns-clause-judged : goal.returns-clause-judged
returns-clause-judged c = turns_done (instance_breaks c.args.outline.now) c.args.instances.now c.loop-number.number c.loop-number-test.false c.loop-number.invariant.judged
