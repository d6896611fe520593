use Rattle.stack_machine.proofs.Performing.{performs_on}
use Rattle.stack_machine.proofs.natives.perform.Goals as goal

pub returns-clause-performed : goal.returns-clause-performed
returns-clause-performed g c =
    λ bound. performs_on c.args.turn.now c.args.native c.of_native-binding.result c.args.arguments.now c.perform_bound.result _ _ _ _ bound c.of_native-binding.ensures c.perform_bound.ensures.line c.perform_bound.ensures.devices c.perform_bound.ensures.reply
