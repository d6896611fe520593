use Rattle.stack_machine.proofs.Sinks.{some_behind_lines}
use Rattle.run_commands.proofs.ResumedRun.{went_on}
use Rattle.run_commands.proofs.resume_command.go_on.Goals as goal

pub returns-clause-appended : goal.returns-clause-appended
returns-clause-appended g c = some_behind_lines _ _ _ c.in_ok-do_turns.ensures.appended c.write_closing.ensures.appended

pub returns-clause-rest : goal.returns-clause-rest
returns-clause-rest g c = went_on c.write_closing.result c.args.machine.now.turns c.do_turns.new.machine.turns c.args.most _ _ _ c.in_ok-do_turns.ensures.turns c.in_ok-do_turns.ensures.most c.in_ok-do_turns.ensures.appended c.write_closing.ensures.closes
