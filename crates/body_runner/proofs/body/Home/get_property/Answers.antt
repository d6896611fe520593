use Rattle.std.proofs.Common.{◌∙◌, Option, IfOk, ℕ, subst, sym}
use Rattle.std.proofs.lemmas.Result.{IfOk-weaker}
use Rattle.loaded_code.specs.declared.instruction.LoadedInstruction.TheVariants as loaded
use Rattle.body_runner.specs.Leaving.{Leaves}
use Rattle.body_runner.proofs.Leaving.{is_none, none_get, some_get}
use Rattle.body_runner.proofs.body.Home.get_property.Goals as goal

pub returns-in_default-2 : goal.returns-in_default-2
returns-in_default-2 c =
    λ there some text. IfOk-weaker c.refuse-in_default-2.result _ _ (λ event r. none_get c.args.self.now c.args.inner.now c.refuse-in_default-2.new.inner there c.args.name c.args.object.now c.args.to.now event (is_none c.in_ok-instance.field-0 _ c.in_default-2.not-Some c.in_ok-instance.ensures) r text) c.refuse-in_default-2.ensures

pub returns : goal.returns
returns c =
    λ there some text. subst (λ (n : Option ℕ). IfOk c.call.result (λ event. Leaves c.args.self.now (loaded.PropGet text n c.args.object.now c.args.to.now) event c.args.inner.now c.call.new.inner)) (sym c.in-Some.is) (IfOk-weaker c.call.result _ _ (λ event made. some_get c.args.self.now c.args.inner.now c.call.new.inner there c.in-Some.name c.in-Some-2.instance c.args.object.now c.args.to.now c.called.result c.new-arguments.result event (sym c.in-Some-2.is ∙ c.in_ok-instance.ensures) c.called.ensures c.new-arguments.ensures.items made text) c.call.ensures)
