use Rattle.std.proofs.Common.{◌∙◌, map, Option, IfOk, ℕ, ap, subst, sym}
use Rattle.std.proofs.lemmas.Result.{IfOk-weaker}
use Rattle.loaded_code.specs.declared.instruction.LoadedInstruction.TheVariants as loaded
use Rattle.body_runner.specs.Leaving.{Leaves}
use Rattle.body_runner.specs.Operands.{worth}
use Rattle.body_runner.proofs.Leaving.{is_none, none_method, some_method}
use Rattle.body_runner.proofs.body.Home.call_method.Goals as goal

pub returns-in_default-2 : goal.returns-in_default-2
returns-in_default-2 c =
    λ there some text more m. IfOk-weaker c.refuse-in_default-2.result _ _ (λ event r. none_method c.args.self.now c.args.inner.now c.refuse-in_default-2.new.inner there c.args.name c.args.object.now c.args.to.now event (is_none c.in_ok-instance.field-0 _ c.in_default-2.not-Some c.in_ok-instance.ensures) r text more) c.refuse-in_default-2.ensures

pub returns : goal.returns
returns c =
    λ there some text more m. subst (λ (n : Option ℕ). IfOk c.call.result (λ event. Leaves c.args.self.now (loaded.CallMethod text n c.args.object.now c.args.to.now more) event c.args.inner.now c.call.new.inner)) (sym c.in-Some.is) (IfOk-weaker c.call.result _ _ (λ event made. some_method c.args.self.now c.args.inner.now c.call.new.inner there c.in-Some.name c.in-Some-2.instance c.args.object.now c.args.to.now c.called.result c.in_ok-arguments.arguments event (sym c.in-Some-2.is ∙ c.in_ok-instance.ensures) more c.called.ensures (c.in_ok-arguments.ensures ∙ ap (map (worth c.args.self.now c.args.inner.now)) (sym m)) made text) c.call.ensures)
