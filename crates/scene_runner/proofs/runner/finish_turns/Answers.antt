use Rattle.stack_machine.proofs.Sinks.{lines_before}
use Rattle.scene_runner.proofs.runner.finish_turns.Goals as goal

pub returns-clause-appended : goal.returns-clause-appended
returns-clause-appended g c = lines_before c.turn_on.result _ _ _ c.in_ok-turn.ensures.appended c.turn_on.ensures.appended
