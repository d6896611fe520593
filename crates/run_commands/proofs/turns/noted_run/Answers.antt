use Rattle.std.proofs.Common.{Ok}
use Rattle.stack_machine.proofs.Sinks.{lines_some, some_behind_lines}
use Rattle.scene_runner.proofs.Appending.{reports_behind}
use Rattle.run_commands.proofs.turns.noted_run.Goals as goal

pub returns-in_err-note_turns-clause-appended : goal.returns-in_err-note_turns-clause-appended
returns-in_err-note_turns-clause-appended g c = c.in_err-note_turns.ensures.appended

pub returns-in_err-write_closing-clause-appended : goal.returns-in_err-write_closing-clause-appended
returns-in_err-write_closing-clause-appended g c = some_behind_lines _ _ _ c.in_ok-note_turns.ensures.appended c.write_closing.ensures.appended

pub returns-clause-reports : goal.returns-clause-reports
returns-clause-reports g c = reports_behind {T = Unit {0}} (Ok tt) c.note_turns.new.machine.turns _ _ _ c.in_ok-note_turns.ensures.appended c.in_ok-write_closing.ensures.closes

pub returns-clause-appended : goal.returns-clause-appended
returns-clause-appended g c = some_behind_lines _ _ _ c.in_ok-note_turns.ensures.appended c.write_closing.ensures.appended
