use Rattle.stack_machine.proofs.Entering.{performs_once}
use Rattle.stack_machine.proofs.turns.native_done.Goals as goal

pub returns-clause-performed : goal.returns-clause-performed
returns-clause-performed g c = λ bound.
    performs_once c.args.turn.now c.args.at c.deref.result.now c.args.arguments.items _ _ _ _ c.deref.ensures.value c.in_ok-value.value (c.in_ok-value.ensures.performed bound)
