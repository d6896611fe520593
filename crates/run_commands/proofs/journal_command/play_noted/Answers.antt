use Rattle.std.proofs.Common.{◌∙◌}
use Rattle.run_commands.proofs.JournalEnds.{turns_short, unstarted_short}
use Rattle.run_commands.proofs.NotedRun.{run_noted}
use Rattle.run_commands.proofs.RunEnds.{turns_count, turns_play}
use Rattle.run_commands.proofs.SceneParts.{unstarted_plays, unstarted_writes}
use Rattle.run_commands.proofs.journal_command.play_noted.Goals as goal

pub returns-in-Err-clause-faults : goal.returns-in-Err-clause-faults
returns-in-Err-clause-faults g c = unstarted_writes c.args.tree 1 c.in-Err.ending _ c.in-Err.ensures.starts

pub returns-in-Err-clause-plays : goal.returns-in-Err-clause-plays
returns-in-Err-clause-plays g c = (unstarted_plays c.args.tree 1 c.in-Err.ending _ c.in-Err.ensures.starts, unstarted_short c.args.tree 1 c.in-Err.ending c.in-Err.ensures.starts)

pub returns-in-Ok-noted_run-clause-plays : goal.returns-in-Ok-noted_run-clause-plays
returns-in-Ok-noted_run-clause-plays g c =
    let ran = c.in-Ok-noted_run.ensures in
    run_noted c.args.tree c.in-Ok.machine c.noted_run.new.machine c.in-Ok-noted_run.journal.items _ _ c.in-Ok.ensures.starts c.noted_run.ensures.scene ran.ended ran.within ran.reports ran.journal

pub returns-in-Ok-noted_run-clause-kinds : goal.returns-in-Ok-noted_run-clause-kinds
returns-in-Ok-noted_run-clause-kinds g c = c.noted_run.ensures.kinds ∙ c.start_machine.ensures.kinds

pub returns-in-Err-noted_run-clause-faults : goal.returns-in-Err-noted_run-clause-faults
returns-in-Err-noted_run-clause-faults g c = rw c.turns_ending.ensures (turns_count c.in-Err-noted_run.fault _ _ c.in-Err-noted_run.ensures.count)

pub returns-in-Err-noted_run-clause-plays : goal.returns-in-Err-noted_run-clause-plays
returns-in-Err-noted_run-clause-plays g c = rw c.turns_ending.ensures (turns_play c.args.tree 1 c.in-Err-noted_run.fault _ _ c.noted_run.ensures.appended, turns_short c.in-Err-noted_run.fault)

pub returns-in-Err-noted_run-clause-kinds : goal.returns-in-Err-noted_run-clause-kinds
returns-in-Err-noted_run-clause-kinds g c = c.noted_run.ensures.kinds ∙ c.start_machine.ensures.kinds
