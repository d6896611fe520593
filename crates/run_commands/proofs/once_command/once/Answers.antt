use Rattle.std.proofs.Common.{arith, ◌+◌, map, length}
use Rattle.std.specs.String.{string_bytes}
use Rattle.command_files.specs.declared.ending.Ending.TheVariants.{OutOfMemory}
use Rattle.run_commands.specs.Answers.{OnceAnswers}
use Rattle.run_commands.specs.Report.{default_turns}
use Rattle.run_commands.proofs.BehindScene.{once_answers_run, once_unbuilt, scripts_end_once}
use Rattle.run_commands.proofs.EarlyEnds.{early_outputs, early_writes}
use Rattle.run_commands.proofs.RunEnds.{run_is_no_usage, run_misses, run_reads, run_word, set_outputs}
use Rattle.run_commands.proofs.SceneParts.{default_has_few}
use Rattle.run_commands.proofs.once_command.once.Goals as goal

pub run_set-requires-clause-few : goal.run_set-requires-clause-few
run_set-requires-clause-few g c = default_has_few _ c.in-Ok-default_scene.tree c.in-Ok-default_scene.ensures

pub returns-in-Err-clause-faults : goal.returns-in-Err-clause-faults
returns-in-Err-clause-faults g c = early_writes (OnceAnswers (map string_bytes c.args.scripts.now)) (g.D.Desk.holds c.args.desk.now) c.in-Err.ending _ (scripts_end_once (map string_bytes c.args.scripts.now) (g.D.Desk.holds c.args.desk.now) c.in-Err.ending c.in-Err.ensures.ends)

pub returns-in-Err-clause-output : goal.returns-in-Err-clause-output
returns-in-Err-clause-output g c = early_outputs (OnceAnswers (map string_bytes c.args.scripts.now)) (g.D.Desk.holds c.args.desk.now) c.in-Err.ending _ (scripts_end_once (map string_bytes c.args.scripts.now) (g.D.Desk.holds c.args.desk.now) c.in-Err.ending c.in-Err.ensures.ends)

pub returns-in-Err-default_scene-clause-output : goal.returns-in-Err-default_scene-clause-output
returns-in-Err-default_scene-clause-output g c = early_outputs (OnceAnswers (map string_bytes c.args.scripts.now)) (g.D.Desk.holds c.args.desk.now) OutOfMemory _ tt

pub returns-clause-read_faults : goal.returns-clause-read_faults
returns-clause-read_faults g c = run_reads c.in-Ok-default_scene.tree 0 c.run_set.result _ _ _ _ c.run_set.ensures.plays c.in-Ok.ensures.read_faults

pub returns-clause-missed : goal.returns-clause-missed
returns-clause-missed g c = run_misses c.in-Ok-default_scene.tree _ 0 c.run_set.result _ _ _ c.run_set.ensures.plays

pub returns-clause-never_usage : goal.returns-clause-never_usage
returns-clause-never_usage g c = run_is_no_usage c.in-Ok-default_scene.tree 0 c.run_set.result _ _ c.run_set.ensures.plays

pub returns-clause-word : goal.returns-clause-word
returns-clause-word g c = run_word c.in-Ok-default_scene.tree (length c.args.scripts.now + 1) 0 c.run_set.result _ _ (omega arith) c.run_set.ensures.plays

pub returns-clause-output : goal.returns-clause-output
returns-clause-output g c =
    let holds = g.D.Desk.holds c.args.desk.now in
    let names = map string_bytes c.args.scripts.now in
    set_outputs (OnceAnswers names) c.in-Ok-default_scene.tree default_turns 0 holds c.run_set.result _ _ (omega (arith, c.in-Ok-default_scene.ensures.turns)) (once_answers_run names holds c.in-Ok.ensures.ends) (once_unbuilt names holds c.in-Ok.ensures.ends) c.run_set.ensures.plays
