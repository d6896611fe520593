use Rattle.std.proofs.Common.{◌≡◌, ◌∙◌, [], Some, map, length, ap, sym, subst, arith}
use Rattle.std.specs.List.{All, AllZip}
use Rattle.std.proofs.lemmas.List.{length-map}
use Rattle.scene_reader.specs.Limits.{CallKeeps, InstanceKeeps}
use Rattle.scene_binder.specs.Bound.{IsBoundCall, IsBoundInstance}
use Rattle.scene_binder.specs.Faults.{IsFirstBroken, binding_faults, in_turn, instance_breaks}
use Rattle.scene_binder.specs.Instances.{tree_script}
use Rattle.scene_binder.specs.Meant.{IsCallMeant}
use Rattle.scene_binder.specs.Scope.{AreNamed, IsSetOf}
use Rattle.scene_binder.proofs.BoundLemmas.{IsBound-from, instances_meant}
use Rattle.scene_binder.proofs.InstanceLemmas.{calls_same, instances_same, sets_same}
use Rattle.scene_binder.proofs.JudgeLemmas.{first_here, first_later, judged_err, none_later}
use Rattle.scene_binder.proofs.binder.bind.Goals as goal

pub returns-clause-bound : goal.returns-clause-bound
returns-clause-bound c =
    let instances = c.in_ok-instances.instances.scripts.items in
    let bound = subst (λ scripts. All (IsBoundInstance scripts instances) c.in_ok-bound.bound.items) c.in_ok-scripts.ensures c.in_ok-bound.ensures.bound in
    let calls = subst (λ scripts. All (IsBoundCall scripts instances) c.in_ok-calls.calls.items) c.in_ok-scripts.ensures c.in_ok-calls.ensures.bound in
    IsBound-from c.args.outline.now.scripts.items instances _ c.in_ok-bound.ensures.scripts bound c.in_ok-natives.ensures.natives c.in_ok-natives.ensures.tapes calls

pub returns-clause-limits : goal.returns-clause-limits
returns-clause-limits c = λ h.
    let names = ap length c.in_ok-bound.ensures.names in
    let parts = ap length c.in_ok-calls.ensures.parts in
    let few_instances = h.few_instances in
    let few_calls = h.few_calls in
    record {
      few_instances = omega (arith, simp length-map at names, ap length c.deref-2.ensures.value);
      instances = c.in_ok-bound.ensures.limits (subst (All InstanceKeeps) (sym c.deref-2.ensures.value) h.instances);
      few_calls = omega (arith, simp length-map at parts, ap length c.deref-3.ensures.value);
      calls = c.in_ok-calls.ensures.limits (subst (All CallKeeps) (sym c.deref-3.ensures.value) h.calls);
      natives = c.in_ok-natives.ensures.limits h.natives;
      tapes = h.tapes;
      order = h.order;
      turns = h.turns;
      quantum = h.quantum;
    }

pub returns-clause-meant : goal.returns-clause-meant
returns-clause-meant c =
    let known = c.in_ok-instances.instances in
    let instances = c.args.tree.instances.items in
    let calls = c.args.tree.calls.items in
    let bound = c.in_ok-bound.bound.items in
    let scripts = c.args.outline.now.scripts.items in
    let found = c.in_ok-instances.ensures in
    let same = c.in_ok-scripts.ensures in
    let named = subst (AreNamed known) c.deref.ensures.value found.named in
    let sets = subst (λ ss. AllZip (IsSetOf ss instances) instances bound) same (subst (λ xs. AllZip (IsSetOf c.in_ok-scripts.scripts instances) xs bound) c.deref-2.ensures.value (c.in_ok-bound.ensures.meant instances named)) in
    let numbers = subst (λ ss. map Some known.scripts.items ≡ map (tree_script ss) instances) same (subst (λ xs. map Some known.scripts.items ≡ map (tree_script c.in_ok-scripts.scripts) xs) c.deref.ensures.value found.scripts_named) in
    record {
      instances = instances_meant scripts instances instances bound sets (ap (map (λ n. Some n)) c.in_ok-bound.ensures.scripts ∙ numbers);
      natives = c.in_ok-natives.ensures.meant;
      calls = subst (λ xs. AllZip (IsCallMeant instances) xs c.in_ok-calls.calls.items) c.deref-3.ensures.value (c.in_ok-calls.ensures.meant instances named);
    }

pub returns-in_err-instances-clause-judged : goal.returns-in_err-instances-clause-judged
unfolding binding_faults
returns-in_err-instances-clause-judged c =
    let scripts = c.args.outline.now.scripts.items in
    let instances = c.args.tree.instances.items in
    let same = c.in_ok-scripts.ensures in
    let fault = c.in_err-instances.field-0.0 in
    let own = subst (IsFirstBroken fault) (ap (λ ss. in_turn (instance_breaks ss) [] c.deref.result.now) same ∙ ap (in_turn (instance_breaks scripts) []) c.deref.ensures.value) c.in_err-instances.ensures.judged in
    judged_err c.from_residual-in_err-instances.result _ fault c.from_residual-in_err-instances.ensures.1 (first_here _ _ fault own)

pub returns-in_err-bound-clause-judged : goal.returns-in_err-bound-clause-judged
unfolding binding_faults
returns-in_err-bound-clause-judged c =
    let scripts = c.args.outline.now.scripts.items in
    let instances = c.args.tree.instances.items in
    let same = c.in_ok-scripts.ensures in
    let known = c.in_ok-instances.instances in
    let given = c.deref-2.result.now in
    let also = c.deref-2.ensures.value in
    let both = c.deref.ensures.value ∙ sym also in
    let found = c.in_ok-instances.ensures in
    let named = subst (AreNamed known) both found.named in
    let numbers = subst (λ xs. map Some known.scripts.items ≡ map (tree_script c.in_ok-scripts.scripts) xs) both found.scripts_named in
    let none = sym (instances_same c.in_ok-scripts.scripts scripts c.deref.result.now instances known same c.deref.ensures.value) ∙ found.judged in
    let sets = sets_same c.in_ok-scripts.scripts scripts given instances known same also named numbers in
    let fault = c.in_err-bound.field-0.0 in
    let own = subst (IsFirstBroken fault) sets (c.in_err-bound.ensures.judged numbers) in
    judged_err c.from_residual-in_err-bound.result _ fault c.from_residual-in_err-bound.ensures.1 (first_later _ _ fault none (first_here _ _ fault own))

pub returns-in_err-natives-clause-judged : goal.returns-in_err-natives-clause-judged
unfolding binding_faults
returns-in_err-natives-clause-judged c =
    let scripts = c.args.outline.now.scripts.items in
    let instances = c.args.tree.instances.items in
    let same = c.in_ok-scripts.ensures in
    let known = c.in_ok-instances.instances in
    let given = c.deref-2.result.now in
    let also = c.deref-2.ensures.value in
    let both = c.deref.ensures.value ∙ sym also in
    let found = c.in_ok-instances.ensures in
    let named = subst (AreNamed known) both found.named in
    let numbers = subst (λ xs. map Some known.scripts.items ≡ map (tree_script c.in_ok-scripts.scripts) xs) both found.scripts_named in
    let none = sym (instances_same c.in_ok-scripts.scripts scripts c.deref.result.now instances known same c.deref.ensures.value) ∙ found.judged in
    let sets = sets_same c.in_ok-scripts.scripts scripts given instances known same also named numbers in
    let fault = c.in_err-natives.field-0.0 in
    let free = sym sets ∙ c.in_ok-bound.ensures.judged numbers in
    judged_err c.from_residual-in_err-natives.result _ fault c.from_residual-in_err-natives.ensures.1 (first_later _ _ fault none (first_later _ _ fault free (first_here _ _ fault c.in_err-natives.ensures.judged)))

pub returns-in_err-calls-clause-judged : goal.returns-in_err-calls-clause-judged
unfolding binding_faults
returns-in_err-calls-clause-judged c =
    let scripts = c.args.outline.now.scripts.items in
    let instances = c.args.tree.instances.items in
    let same = c.in_ok-scripts.ensures in
    let known = c.in_ok-instances.instances in
    let given = c.deref-2.result.now in
    let also = c.deref-2.ensures.value in
    let both = c.deref.ensures.value ∙ sym also in
    let found = c.in_ok-instances.ensures in
    let named = subst (AreNamed known) both found.named in
    let numbers = subst (λ xs. map Some known.scripts.items ≡ map (tree_script c.in_ok-scripts.scripts) xs) both found.scripts_named in
    let none = sym (instances_same c.in_ok-scripts.scripts scripts c.deref.result.now instances known same c.deref.ensures.value) ∙ found.judged in
    let sets = sets_same c.in_ok-scripts.scripts scripts given instances known same also named numbers in
    let listed = calls_same c.in_ok-scripts.scripts scripts given instances known same also named numbers c.deref-3.result.now c.args.tree.calls.items c.deref-3.ensures.value in
    let fault = c.in_err-calls.field-0.0 in
    let free = sym sets ∙ c.in_ok-bound.ensures.judged numbers in
    let own = subst (IsFirstBroken fault) listed c.in_err-calls.ensures.judged in
    judged_err c.from_residual-in_err-calls.result _ fault c.from_residual-in_err-calls.ensures.1 (first_later _ _ fault none (first_later _ _ fault free (first_later _ _ fault c.in_ok-natives.ensures.judged own)))

pub returns-clause-judged : goal.returns-clause-judged
unfolding binding_faults
returns-clause-judged c =
    let scripts = c.args.outline.now.scripts.items in
    let instances = c.args.tree.instances.items in
    let same = c.in_ok-scripts.ensures in
    let known = c.in_ok-instances.instances in
    let given = c.deref-2.result.now in
    let also = c.deref-2.ensures.value in
    let both = c.deref.ensures.value ∙ sym also in
    let found = c.in_ok-instances.ensures in
    let named = subst (AreNamed known) both found.named in
    let numbers = subst (λ xs. map Some known.scripts.items ≡ map (tree_script c.in_ok-scripts.scripts) xs) both found.scripts_named in
    let none = sym (instances_same c.in_ok-scripts.scripts scripts c.deref.result.now instances known same c.deref.ensures.value) ∙ found.judged in
    let sets = sets_same c.in_ok-scripts.scripts scripts given instances known same also named numbers in
    let listed = calls_same c.in_ok-scripts.scripts scripts given instances known same also named numbers c.deref-3.result.now c.args.tree.calls.items c.deref-3.ensures.value in
    let free = sym sets ∙ c.in_ok-bound.ensures.judged numbers in
    none_later _ _ none (none_later _ _ free (none_later _ _ c.in_ok-natives.ensures.judged (sym listed ∙ c.in_ok-calls.ensures.judged)))
