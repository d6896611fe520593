use Rattle.std.proofs.Common.{arith, ◌+◌, ◌∙◌, ◌∷◌, length}
use Rattle.std.specs.String.{string_bytes}
use Rattle.command_files.specs.Ending.{one_later}
use Rattle.command_files.specs.FileFault.{ending_at}
use Rattle.run_commands.specs.Answers.{RunAnswers}
use Rattle.run_commands.specs.Report.{most_turns}
use Rattle.run_commands.proofs.BehindScene.{behind_word, later_misses, names_behind, names_split, run_answers_run, run_unbuilt, scene_ends_run, scene_is_held, scene_missed, scene_reads, scene_word, scripts_end_run, word_fits}
use Rattle.run_commands.proofs.EarlyEnds.{early_is_no_usage, early_outputs, early_writes, later_reads}
use Rattle.run_commands.proofs.RunEnds.{run_is_no_usage, run_misses, run_reads, run_word, set_outputs}
use Rattle.run_commands.proofs.SceneParts.{read_has_few}
use Rattle.run_commands.proofs.run_command.run.Goals as goal

pub run_set-requires-clause-few : goal.run_set-requires-clause-few
run_set-requires-clause-few g c = read_has_few c.in-Ok.tree c.in-Ok.ensures.limits

-- ---- the scene

pub returns-in-Err-clause-read_faults : goal.returns-in-Err-clause-read_faults
returns-in-Err-clause-read_faults g c = rw c.at_word.ensures (scene_reads c.in-Err.fault _ _ c.in-Err.ensures.read_faults)

pub returns-in-Err-clause-missed : goal.returns-in-Err-clause-missed
returns-in-Err-clause-missed g c =
    let scene = c.index-files-0.result in
    let split = names_split c.args.files.now scene (omega (arith, c.requires.some)) c.index-files-0.is in
    rw (split, c.at_word.ensures) (scene_missed (string_bytes scene) (names_behind c.args.files.now) c.in-Err.fault _ _ c.as_bytes.ensures.value c.in-Err.ensures.missed)

pub returns-in-Err-clause-faults : goal.returns-in-Err-clause-faults
returns-in-Err-clause-faults g c =
    let holds = g.D.Desk.holds c.args.desk.now in
    let scene = c.index-files-0.result in
    let read = rw c.as_bytes.ensures.value at c.in-Err.ensures.read in
    let ends = scene_ends_run (string_bytes scene) (names_behind c.args.files.now) holds c.in-Err.fault read in
    rw c.at_word.ensures (early_writes (RunAnswers (string_bytes scene ∷ names_behind c.args.files.now)) holds (ending_at 1 c.in-Err.fault) _ ends)

pub returns-in-Err-clause-never_usage : goal.returns-in-Err-clause-never_usage
returns-in-Err-clause-never_usage g c =
    let holds = g.D.Desk.holds c.args.desk.now in
    let scene = c.index-files-0.result in
    let read = rw c.as_bytes.ensures.value at c.in-Err.ensures.read in
    let ends = scene_ends_run (string_bytes scene) (names_behind c.args.files.now) holds c.in-Err.fault read in
    rw c.at_word.ensures (early_is_no_usage (RunAnswers (string_bytes scene ∷ names_behind c.args.files.now)) holds (ending_at 1 c.in-Err.fault) ends)

pub returns-in-Err-clause-word : goal.returns-in-Err-clause-word
returns-in-Err-clause-word g c = rw c.at_word.ensures (scene_word (length c.args.files.now + 1) c.in-Err.fault (omega (arith, c.requires.some)))

pub returns-in-Err-clause-output : goal.returns-in-Err-clause-output
returns-in-Err-clause-output g c =
    let holds = g.D.Desk.holds c.args.desk.now in
    let scene = c.index-files-0.result in
    let split = names_split c.args.files.now scene (omega (arith, c.requires.some)) c.index-files-0.is in
    let read = rw c.as_bytes.ensures.value at c.in-Err.ensures.read in
    let ends = scene_ends_run (string_bytes scene) (names_behind c.args.files.now) holds c.in-Err.fault read in
    rw (split, c.at_word.ensures) (early_outputs (RunAnswers (string_bytes scene ∷ names_behind c.args.files.now)) holds (ending_at 1 c.in-Err.fault) _ ends)

-- ---- the scripts

pub one_later-requires : goal.one_later-requires
one_later-requires g c = word_fits c.args.files.now c.in-Err-accept.ending (omega (arith, c.requires.some)) c.requires.few c.in-Err-accept.ensures.word

pub returns-in-Err-accept-clause-read_faults : goal.returns-in-Err-accept-clause-read_faults
returns-in-Err-accept-clause-read_faults g c =
    let counts = rw c.in-Ok.ensures.read_faults at c.in-Err-accept.ensures.read_faults in
    rw c.one_later.ensures (later_reads c.in-Err-accept.ending _ _ counts)

pub returns-in-Err-accept-clause-missed : goal.returns-in-Err-accept-clause-missed
returns-in-Err-accept-clause-missed g c =
    let scene = c.index-files-0.result in
    let split = names_split c.args.files.now scene (omega (arith, c.requires.some)) c.index-files-0.is in
    rw (split, c.one_later.ensures) (later_misses (string_bytes scene) (names_behind c.args.files.now) c.in-Err-accept.ending _ c.in-Err-accept.ensures.missed)

pub returns-in-Err-accept-clause-faults : goal.returns-in-Err-accept-clause-faults
returns-in-Err-accept-clause-faults g c =
    let holds = g.D.Desk.holds c.args.desk.now in
    let scene = string_bytes c.index-files-0.result in
    let read = rw c.as_bytes.ensures.value at c.in-Ok.ensures.read in
    let behind = rw c.in-Ok.ensures.holds at c.in-Err-accept.ensures.ends in
    let ends = scripts_end_run scene (names_behind c.args.files.now) holds c.in-Err-accept.ending (scene_is_held holds scene c.in-Ok.tree read) behind in
    rw c.one_later.ensures (early_writes (RunAnswers (scene ∷ names_behind c.args.files.now)) holds (one_later c.in-Err-accept.ending) _ ends)

pub returns-in-Err-accept-clause-never_usage : goal.returns-in-Err-accept-clause-never_usage
returns-in-Err-accept-clause-never_usage g c =
    let holds = g.D.Desk.holds c.args.desk.now in
    let scene = string_bytes c.index-files-0.result in
    let read = rw c.as_bytes.ensures.value at c.in-Ok.ensures.read in
    let behind = rw c.in-Ok.ensures.holds at c.in-Err-accept.ensures.ends in
    let ends = scripts_end_run scene (names_behind c.args.files.now) holds c.in-Err-accept.ending (scene_is_held holds scene c.in-Ok.tree read) behind in
    rw c.one_later.ensures (early_is_no_usage (RunAnswers (scene ∷ names_behind c.args.files.now)) holds (one_later c.in-Err-accept.ending) ends)

pub returns-in-Err-accept-clause-word : goal.returns-in-Err-accept-clause-word
returns-in-Err-accept-clause-word g c =
    rw c.one_later.ensures (behind_word c.args.files.now c.in-Err-accept.ending (omega (arith, c.requires.some)) c.in-Err-accept.ensures.word)

pub returns-in-Err-accept-clause-output : goal.returns-in-Err-accept-clause-output
returns-in-Err-accept-clause-output g c =
    let holds = g.D.Desk.holds c.args.desk.now in
    let scene = string_bytes c.index-files-0.result in
    let split = names_split c.args.files.now c.index-files-0.result (omega (arith, c.requires.some)) c.index-files-0.is in
    let read = rw c.as_bytes.ensures.value at c.in-Ok.ensures.read in
    let behind = rw c.in-Ok.ensures.holds at c.in-Err-accept.ensures.ends in
    let ends = scripts_end_run scene (names_behind c.args.files.now) holds c.in-Err-accept.ending (scene_is_held holds scene c.in-Ok.tree read) behind in
    rw (split, c.one_later.ensures) (early_outputs (RunAnswers (scene ∷ names_behind c.args.files.now)) holds (one_later c.in-Err-accept.ending) _ ends)

-- ---- the run

pub returns-clause-read_faults : goal.returns-clause-read_faults
returns-clause-read_faults g c = run_reads c.in-Ok.tree 1 c.run_set.result _ _ _ _ c.run_set.ensures.plays (c.in-Ok-accept.ensures.read_faults ∙ c.in-Ok.ensures.read_faults)

pub returns-clause-missed : goal.returns-clause-missed
returns-clause-missed g c = run_misses c.in-Ok.tree _ 1 c.run_set.result _ _ _ c.run_set.ensures.plays

pub returns-clause-never_usage : goal.returns-clause-never_usage
returns-clause-never_usage g c = run_is_no_usage c.in-Ok.tree 1 c.run_set.result _ _ c.run_set.ensures.plays

pub returns-clause-word : goal.returns-clause-word
returns-clause-word g c = run_word c.in-Ok.tree (length c.args.files.now + 1) 1 c.run_set.result _ _ (omega (arith, c.requires.some)) c.run_set.ensures.plays

pub returns-clause-output : goal.returns-clause-output
returns-clause-output g c =
    let holds = g.D.Desk.holds c.args.desk.now in
    let scene = string_bytes c.index-files-0.result in
    let names = names_behind c.args.files.now in
    let split = names_split c.args.files.now c.index-files-0.result (omega (arith, c.requires.some)) c.index-files-0.is in
    let read = rw c.as_bytes.ensures.value at c.in-Ok.ensures.read in
    let held = scene_is_held holds scene c.in-Ok.tree read in
    let behind = rw c.in-Ok.ensures.holds at c.in-Ok-accept.ensures.ends in
    rw split (set_outputs (RunAnswers (scene ∷ names)) c.in-Ok.tree most_turns 1 holds c.run_set.result _ _ c.in-Ok.ensures.limits.turns (run_answers_run scene names holds held behind) (run_unbuilt scene names holds held behind) c.run_set.ensures.plays)
