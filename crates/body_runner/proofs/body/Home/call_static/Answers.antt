use Rattle.std.proofs.Common.{◌∙◌, map, Option, IfOk, ap, subst, sym}
use Rattle.std.proofs.lemmas.Result.{IfOk-weaker}
use Rattle.loaded_code.specs.declared.instruction.LoadedInstruction.TheVariants as loaded
use Rattle.loaded_code.specs.declared.script.MethodPlace.{MethodPlace}
use Rattle.body_runner.specs.declared.calls.Event.TheVariants as events
use Rattle.body_runner.specs.Leaving.{IsPlaced, Leaves}
use Rattle.body_runner.specs.Operands.{worth}
use Rattle.body_runner.proofs.Leaving.{static_call, static_native}
use Rattle.body_runner.proofs.body.Home.call_static.Goals as goal

pub returns-then-is_native : goal.returns-then-is_native
returns-then-is_native c =
    λ there script text more placed m. subst (λ (f : Option MethodPlace). Leaves c.args.self.now (loaded.CallStatic script text f c.args.to.now more) (events.Native c.in-Some.at c.in_ok-arguments.arguments) c.args.inner.now c.args.inner.now) (sym c.in-Some.is) (static_native c.args.self.now c.args.inner.now c.in-Some.at c.args.to.now c.in_ok-arguments.arguments more (c.in_ok-arguments.ensures ∙ ap (map (worth c.args.self.now c.args.inner.now)) (sym m)) (sym c.if-is_native.true ∙ c.is_native.ensures) script text (subst (λ (f : Option MethodPlace). IsPlaced c.args.self.now.turn.now.setting.now.loaded script text f) c.in-Some.is placed))

pub returns : goal.returns
returns c =
    λ there script text more placed m. subst (λ (f : Option MethodPlace). IfOk c.call.result (λ event. Leaves c.args.self.now (loaded.CallStatic script text f c.args.to.now more) event c.args.inner.now c.call.new.inner)) (sym c.in-Some.is) (IfOk-weaker c.call.result _ _ (λ event made. static_call c.args.self.now c.args.inner.now c.call.new.inner there c.in-Some.at c.args.to.now c.called.result c.in_ok-arguments.arguments event more c.called.ensures (c.in_ok-arguments.ensures ∙ ap (map (worth c.args.self.now c.args.inner.now)) (sym m)) (sym c.if-is_native.false ∙ c.is_native.ensures) made script text (subst (λ (f : Option MethodPlace). IsPlaced c.args.self.now.turn.now.setting.now.loaded script text f) c.in-Some.is placed)) c.call.ensures)
