use Rattle.std.proofs.Common.{◌∙◌}
use Rattle.run_commands.proofs.RunEnds.{run_writes, turns_count, turns_play}
use Rattle.run_commands.proofs.SceneParts.{unstarted_plays, unstarted_writes}
use Rattle.run_commands.proofs.play.play.Goals as goal

pub returns-in-Err-clause-faults : goal.returns-in-Err-clause-faults
returns-in-Err-clause-faults g c = unstarted_writes c.args.tree c.args.word c.in-Err.ending _ c.in-Err.ensures.starts

pub returns-in-Err-clause-plays : goal.returns-in-Err-clause-plays
returns-in-Err-clause-plays g c = unstarted_plays c.args.tree c.args.word c.in-Err.ending _ c.in-Err.ensures.starts

pub returns-in-Ok-run_scene-clause-faults : goal.returns-in-Ok-run_scene-clause-faults
returns-in-Ok-run_scene-clause-faults g c = c.in-Ok-run_scene.ensures.count c.in-Ok.ensures.starts.no_fault

pub returns-in-Ok-run_scene-clause-plays : goal.returns-in-Ok-run_scene-clause-plays
returns-in-Ok-run_scene-clause-plays g c =
    let ran = c.in-Ok-run_scene.ensures in
    run_writes c.args.tree c.in-Ok.machine c.run_scene.new.machine _ _ c.in-Ok.ensures.starts c.run_scene.ensures.fixed.1 ran.ended ran.within ran.reports

pub returns-in-Ok-run_scene-clause-kinds : goal.returns-in-Ok-run_scene-clause-kinds
returns-in-Ok-run_scene-clause-kinds g c = c.run_scene.ensures.kinds ∙ c.start_machine.ensures.kinds

pub returns-in-Err-run_scene-clause-faults : goal.returns-in-Err-run_scene-clause-faults
returns-in-Err-run_scene-clause-faults g c = rw c.turns_ending.ensures (turns_count c.in-Err-run_scene.fault _ _ (c.in-Err-run_scene.ensures.count c.in-Ok.ensures.starts.no_fault))

pub returns-in-Err-run_scene-clause-plays : goal.returns-in-Err-run_scene-clause-plays
returns-in-Err-run_scene-clause-plays g c = rw c.turns_ending.ensures (turns_play c.args.tree c.args.word c.in-Err-run_scene.fault _ _ c.run_scene.ensures.appended)

pub returns-in-Err-run_scene-clause-kinds : goal.returns-in-Err-run_scene-clause-kinds
returns-in-Err-run_scene-clause-kinds g c = c.run_scene.ensures.kinds ∙ c.start_machine.ensures.kinds
