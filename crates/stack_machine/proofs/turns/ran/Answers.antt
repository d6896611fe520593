use Rattle.stack_machine.proofs.Sinks.{lines_before}
use Rattle.stack_machine.proofs.turns.ran.Goals as goal

pub returns-clause-appended : goal.returns-clause-appended
returns-clause-appended g c =
    lines_before c.acted.result _ _ _ c.in_ok-act.ensures.appended c.acted.ensures.appended
