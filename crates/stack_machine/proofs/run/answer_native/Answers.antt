use Rattle.stack_machine.proofs.Runs.{answers}
use Rattle.stack_machine.proofs.run.answer_native.Goals as goal

pub returns-clause-answered : goal.returns-clause-answered
returns-clause-answered g c =
    λ ready call found. answers c.args.home.now c.args.place call c.args.native c.args.arguments.now c.in_ok-reply.reply _ _ _ _ c.args.inner.now c.give.new.inner found (c.in_ok-reply.ensures.performed ready.bound) (c.in_ok-give.ensures ready.there)
