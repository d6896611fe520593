use Rattle.std.proofs.Common.{◌∙◌, map, Option, IfOk, ℕ, ap, subst, sym}
use Rattle.std.proofs.lemmas.Result.{IfOk-weaker}
use Rattle.loaded_code.specs.declared.instruction.LoadedInstruction.TheVariants as loaded
use Rattle.body_runner.specs.Leaving.{Leaves}
use Rattle.body_runner.specs.Operands.{worth}
use Rattle.body_runner.proofs.Leaving.{parent_method}
use Rattle.body_runner.proofs.body.Home.call_parent.Goals as goal

pub returns : goal.returns
returns c =
    λ there some text more m. subst (λ (n : Option ℕ). IfOk c.call.result (λ event. Leaves c.args.self.now (loaded.CallParent text n c.args.to.now more) event c.args.inner.now c.call.new.inner)) (sym c.in-Some.is) (IfOk-weaker c.call.result _ _ (λ event made. parent_method c.args.self.now c.args.inner.now c.call.new.inner there c.in-Some.name c.args.to.now c.called.result c.in_ok-arguments.arguments event more c.called.ensures (c.in_ok-arguments.ensures ∙ ap (map (worth c.args.self.now c.args.inner.now)) (sym m)) made text) c.call.ensures)
