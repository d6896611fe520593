use Rattle.std.proofs.Common.{◌∙◌, ◌∷◌, [], Option, ℕ, ap, rules, subst, sym}
use Rattle.core_tree.specs.declared.value.Value.{Value}
use Rattle.loaded_code.specs.declared.instruction.LoadedInstruction.TheVariants as loaded
use Rattle.body_runner.specs.declared.calls.Event.TheVariants as events
use Rattle.body_runner.specs.Leaving.{Leaves}
use Rattle.body_runner.proofs.Leaving.{is_none, no_room_set, none_set, some_set}
use Rattle.body_runner.proofs.body.Home.set_property.Goals as goal

pub returns-in_default-2 : goal.returns-in_default-2
returns-in_default-2 c =
    λ some text. none_set c.args.self.now c.args.inner.now c.args.name c.args.object.now c.args.value.now (is_none c.in_ok-instance.field-0 _ c.in_default-2.not-Some c.in_ok-instance.ensures) text

pub returns-then-not-self : goal.returns-then-not-self
returns-then-not-self c =
    λ some text. no_room_set c.args.self.now c.args.inner.now c.args.name c.in-Some-2.instance c.args.object.now c.args.value.now (sym c.in-Some-2.is ∙ c.in_ok-instance.ensures) (search rules) text

pub returns : goal.returns
returns c =
    λ some text. subst (λ (n : Option ℕ). Leaves c.args.self.now (loaded.PropSet text n c.args.object.now c.args.value.now) (events.Called c.called.result) c.args.inner.now c.args.inner.now) (sym c.in-Some.is) (some_set c.args.self.now c.args.inner.now c.in-Some.name c.in-Some-2.instance c.args.object.now c.args.value.now c.called.result c.in_ok-arguments.arguments (sym c.in-Some-2.is ∙ c.in_ok-instance.ensures) (search rules) c.called.ensures (c.in_ok-arguments.ensures.items ∙ ap (λ (v : Value). v ∷ []) c.in_ok-value.ensures) text)
