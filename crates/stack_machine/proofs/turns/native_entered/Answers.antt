use Rattle.std.proofs.Common.{◌∙◌}
use Rattle.stack_machine.proofs.Entering.{once_more, performs_once}
use Rattle.stack_machine.proofs.turns.native_entered.Goals as goal

pub returns-then-not-is_prompt-clause-performed : goal.returns-then-not-is_prompt-clause-performed
returns-then-not-is_prompt-clause-performed g c = λ bound.
    once_more c.args.turn.now c.args.at c.arguments_out-arguments.result.items _ _ _ _ _ c.arguments_out-arguments.ensures c.native_done.result (c.native_done.ensures.performed bound)

pub returns-clause-performed : goal.returns-clause-performed
returns-clause-performed g c = λ bound.
    performs_once c.args.turn.now c.args.at c.deref.result.now _ _ _ _ _ (c.deref.ensures.value ∙ c.arguments_out-arguments.ensures) c.in_ok-value.value (c.in_ok-value.ensures.performed bound)
