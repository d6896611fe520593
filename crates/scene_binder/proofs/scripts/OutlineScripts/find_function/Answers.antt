use Rattle.std.proofs.Common.{◌≡◌, None, Some, rules, sym, ap, subst, ◌∙◌, arith}
use Rattle.std.specs.Option.{option_map}
use Rattle.papy_base.specs.Case.{folded}
use Rattle.core_tree.specs.Outlines.{parents_of}
use Rattle.core_tree.specs.declared.outline.OutlineFunction.{OutlineFunction}
use Rattle.scene_binder.specs.Members.{IsNearestFunction, own_function}
use Rattle.scene_binder.proofs.WayLemmas.{HasPassed, HasPassed-first, HasPassed-more, HasPassed-nearest, HasPassed-nothing, Nearest-above}
use Rattle.scene_binder.proofs.scripts.OutlineScripts.find_function.Goals as goal

pub loop-script-init : goal.loop-script-init
loop-script-init c = record { way = search rules; none = λ k d lt. absurd (omega arith) }

pub loop-script-preserved : goal.loop-script-preserved
loop-script-preserved c =
    let scripts = c.args.self.now in
    let own = own_function scripts (folded c.args.name.now) in
    let passed = c.loop-script.yielded in
    let here = subst (λ left. HasPassed {X = OutlineFunction} (parents_of scripts) own c.args.first passed left) c.in-Some.ensures.steps c.loop-script.invariant in
    let none : own c.in-Some.script ≡ None = ap (λ name. own_function scripts (folded name) c.in-Some.script) (sym c.in_ok-name.ensures) ∙ sym c.in_default.ensures.first in
    HasPassed-more {X = OutlineFunction} (parents_of scripts) own c.args.first passed c.in-Some.script c.next.new.self here none

pub returns-in-Some-own_function-clause-named : goal.returns-in-Some-own_function-clause-named
returns-in-Some-own_function-clause-named c =
    let scripts = c.args.self.now in
    let function = c.in-Some-own_function.function.now in
    let own = own_function scripts (folded c.args.name.now) in
    let passed = c.loop-script.yielded in
    let here = subst (λ left. HasPassed {X = OutlineFunction} (parents_of scripts) own c.args.first passed left) c.in-Some.ensures.steps c.loop-script.invariant in
    let some : own c.in-Some.script ≡ Some function = ap (λ name. own_function scripts (folded name) c.in-Some.script) (sym c.in_ok-name.ensures) ∙ sym c.in-Some-own_function.ensures.first in
    let nearest : IsNearestFunction scripts c.args.name.now c.args.first c.in-Some.script function = HasPassed-nearest {X = OutlineFunction} (parents_of scripts) own c.args.first passed c.in-Some.script c.next.new.self function here some in
    record {
      owner = c.in-Some.script;
      above = Nearest-above {X = OutlineFunction} (parents_of scripts) own nearest;
      there = c.in-Some-own_function.ensures.there;
      named = c.in-Some-own_function.ensures.named ∙ ap folded c.in_ok-name.ensures;
      nearest = nearest;
    }

pub returns-in-Some-own_function-clause-first : goal.returns-in-Some-own_function-clause-first
returns-in-Some-own_function-clause-first c =
    let scripts = c.args.self.now in
    let function = c.in-Some-own_function.function.now in
    let own = own_function scripts (folded c.args.name.now) in
    let passed = c.loop-script.yielded in
    let here = subst (λ left. HasPassed {X = OutlineFunction} (parents_of scripts) own c.args.first passed left) c.in-Some.ensures.steps c.loop-script.invariant in
    let some : own c.in-Some.script ≡ Some function = ap (λ name. own_function scripts (folded name) c.in-Some.script) (sym c.in_ok-name.ensures) ∙ sym c.in-Some-own_function.ensures.first in
    sym (ap (option_map (λ found. found.1)) (HasPassed-first {X = OutlineFunction} (parents_of scripts) own c.args.first passed c.in-Some.script c.next.new.self function here some))

pub returns-clause-first : goal.returns-clause-first
returns-clause-first c =
    let own = own_function c.args.self.now (folded c.args.name.now) in
    sym (ap (option_map (λ found. found.1)) (HasPassed-nothing {X = OutlineFunction} (parents_of c.args.self.now) own c.args.first c.loop-script.yielded _ c.loop-script.invariant c.in-None.ensures.steps.0))
