use Rattle.std.proofs.Common.{◌≡◌, None, Some, rules, sym, ap, subst, ◌∙◌, arith}
use Rattle.papy_base.specs.Case.{folded}
use Rattle.core_tree.specs.Outlines.{parents_of}
use Rattle.core_tree.specs.declared.outline.OutlineProperty.{OutlineProperty}
use Rattle.scene_binder.specs.Members.{own_property}
use Rattle.scene_binder.proofs.WayLemmas.{HasPassed, HasPassed-first, HasPassed-more, HasPassed-nearest, HasPassed-nothing, Nearest-above}
use Rattle.scene_binder.proofs.scripts.OutlineScripts.find_property.Goals as goal

pub loop-script-init : goal.loop-script-init
loop-script-init c = record { way = search rules; none = λ k d lt. absurd (omega arith) }

pub loop-script-preserved : goal.loop-script-preserved
loop-script-preserved c =
    let scripts = c.args.self.now in
    let own = own_property scripts (folded c.args.name.now) in
    let passed = c.loop-script.yielded in
    let here = subst (λ left. HasPassed {X = OutlineProperty} (parents_of scripts) own c.args.first passed left) c.in-Some.ensures.steps c.loop-script.invariant in
    let none : own c.in-Some.script ≡ None = ap (λ name. own_property scripts (folded name) c.in-Some.script) (sym c.in_ok-name.ensures) ∙ sym c.in_default.ensures.first in
    HasPassed-more {X = OutlineProperty} (parents_of scripts) own c.args.first passed c.in-Some.script c.next.new.self here none

pub returns-in-Some-own_property-clause-nearest : goal.returns-in-Some-own_property-clause-nearest
returns-in-Some-own_property-clause-nearest c =
    let scripts = c.args.self.now in
    let property = c.in-Some-own_property.property.now in
    let own = own_property scripts (folded c.args.name.now) in
    let passed = c.loop-script.yielded in
    let here = subst (λ left. HasPassed {X = OutlineProperty} (parents_of scripts) own c.args.first passed left) c.in-Some.ensures.steps c.loop-script.invariant in
    let some : own c.in-Some.script ≡ Some property = ap (λ name. own_property scripts (folded name) c.in-Some.script) (sym c.in_ok-name.ensures) ∙ sym c.in-Some-own_property.ensures.first in
    HasPassed-nearest {X = OutlineProperty} (parents_of scripts) own c.args.first passed c.in-Some.script c.next.new.self property here some

pub returns-in-Some-own_property-clause-there : goal.returns-in-Some-own_property-clause-there
returns-in-Some-own_property-clause-there c =
    let scripts = c.args.self.now in
    let own = own_property scripts (folded c.args.name.now) in
    (Nearest-above {X = OutlineProperty} (parents_of scripts) own (returns-in-Some-own_property-clause-nearest c), c.in-Some-own_property.ensures.there)

pub returns-in-Some-own_property-clause-first : goal.returns-in-Some-own_property-clause-first
returns-in-Some-own_property-clause-first c =
    let scripts = c.args.self.now in
    let property = c.in-Some-own_property.property.now in
    let own = own_property scripts (folded c.args.name.now) in
    let passed = c.loop-script.yielded in
    let here = subst (λ left. HasPassed {X = OutlineProperty} (parents_of scripts) own c.args.first passed left) c.in-Some.ensures.steps c.loop-script.invariant in
    let some : own c.in-Some.script ≡ Some property = ap (λ name. own_property scripts (folded name) c.in-Some.script) (sym c.in_ok-name.ensures) ∙ sym c.in-Some-own_property.ensures.first in
    sym (HasPassed-first {X = OutlineProperty} (parents_of scripts) own c.args.first passed c.in-Some.script c.next.new.self property here some)

pub returns-clause-first : goal.returns-clause-first
returns-clause-first c =
    let own = own_property c.args.self.now (folded c.args.name.now) in
    sym (HasPassed-nothing {X = OutlineProperty} (parents_of c.args.self.now) own c.args.first c.loop-script.yielded _ c.loop-script.invariant c.in-None.ensures.steps.0)
