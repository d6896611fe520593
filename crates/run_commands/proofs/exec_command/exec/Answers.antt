use Rattle.std.proofs.Common.{arith, ◌+◌, map, length}
use Rattle.std.specs.String.{string_bytes}
use Rattle.run_commands.specs.Answers.{ExecAnswers}
use Rattle.run_commands.specs.Report.{most_turns}
use Rattle.run_commands.proofs.EarlyEnds.{early_is_no_usage, early_outputs, early_writes}
use Rattle.run_commands.proofs.ProgramEnds.{program_ends, program_runs, run_misses_none}
use Rattle.run_commands.proofs.RunEnds.{play_outputs, run_is_no_usage, run_reads, run_word, set_plays}
use Rattle.run_commands.proofs.SceneParts.{read_has_few}
use Rattle.run_commands.proofs.exec_command.exec.Goals as goal

pub play-requires-clause-few : goal.play-requires-clause-few
play-requires-clause-few g c = read_has_few c.in-Ok.program.tree c.in-Ok.ensures.limits

-- ---- the files

pub returns-in-Err-clause-faults : goal.returns-in-Err-clause-faults
returns-in-Err-clause-faults g c =
    let holds = g.D.Desk.holds c.args.desk.now in
    early_writes (ExecAnswers (map string_bytes c.args.files.now)) holds c.in-Err.ending _ (program_ends 1 2 (map string_bytes c.args.files.now) holds c.in-Err.ending c.in-Err.ensures.ends)

pub returns-in-Err-clause-never_usage : goal.returns-in-Err-clause-never_usage
returns-in-Err-clause-never_usage g c =
    let holds = g.D.Desk.holds c.args.desk.now in
    early_is_no_usage (ExecAnswers (map string_bytes c.args.files.now)) holds c.in-Err.ending (program_ends 1 2 (map string_bytes c.args.files.now) holds c.in-Err.ending c.in-Err.ensures.ends)

pub returns-in-Err-clause-output : goal.returns-in-Err-clause-output
returns-in-Err-clause-output g c =
    let holds = g.D.Desk.holds c.args.desk.now in
    early_outputs (ExecAnswers (map string_bytes c.args.files.now)) holds c.in-Err.ending _ (program_ends 1 2 (map string_bytes c.args.files.now) holds c.in-Err.ending c.in-Err.ensures.ends)

-- ---- the run

pub returns-clause-read_faults : goal.returns-clause-read_faults
returns-clause-read_faults g c =
    let plays = set_plays c.in-Ok.program.tree 1 c.play.result _ _ c.play.ensures.plays in run_reads c.in-Ok.program.tree 1 c.play.result _ _ _ _ plays c.in-Ok.ensures.read_faults

pub returns-clause-missed : goal.returns-clause-missed
returns-clause-missed g c = run_misses_none c.in-Ok.program.tree 1 1 2 _ c.play.result _ _ _ c.play.ensures.plays

pub returns-clause-never_usage : goal.returns-clause-never_usage
returns-clause-never_usage g c = run_is_no_usage c.in-Ok.program.tree 1 c.play.result _ _ (set_plays c.in-Ok.program.tree 1 c.play.result _ _ c.play.ensures.plays)

pub returns-clause-word : goal.returns-clause-word
returns-clause-word g c = run_word c.in-Ok.program.tree (length c.args.files.now + 1) 1 c.play.result _ _ (omega (arith, c.requires.some)) (set_plays c.in-Ok.program.tree 1 c.play.result _ _ c.play.ensures.plays)

pub returns-clause-output : goal.returns-clause-output
returns-clause-output g c =
    let holds = g.D.Desk.holds c.args.desk.now in
    let words = map string_bytes c.args.files.now in
    play_outputs (ExecAnswers words) c.in-Ok.program.tree most_turns 1 holds c.play.result _ _ c.in-Ok.ensures.limits.turns (program_runs _ 1 2 words c.in-Ok.program holds c.in-Ok.ensures.held) c.play.ensures.plays
