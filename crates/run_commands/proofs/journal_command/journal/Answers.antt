use Rattle.std.proofs.Common.{arith, ◌≡◌, ◌+◌, ◌∙◌, [], map, length, sym, ap}
use Rattle.std.proofs.lemmas.List.{get_or-map}
use Rattle.std.specs.String.{string_bytes}
use Rattle.command_files.specs.declared.ending.Ending.TheVariants.{Done}
use Rattle.command_files.specs.Ending.{word_at}
use Rattle.run_commands.specs.Answers.{JournalAnswers}
use Rattle.run_commands.specs.Report.{most_turns}
use Rattle.run_commands.proofs.EarlyEnds.{early_is_no_usage, early_outputs, early_writes}
use Rattle.run_commands.proofs.JournalEnds.{cut_journal, early_journal, noted_plays, output_counts, short_journal, whole_journal}
use Rattle.run_commands.proofs.ProgramEnds.{program_ends, program_runs, run_misses_none, unwritten_outputs}
use Rattle.run_commands.proofs.RunEnds.{play_outputs, run_is_no_usage, run_reads, run_word, set_plays}
use Rattle.run_commands.proofs.SceneParts.{read_has_few}
use Rattle.run_commands.proofs.journal_command.journal.Goals as goal

pub play_noted-requires-clause-few : goal.play_noted-requires-clause-few
play_noted-requires-clause-few g c = read_has_few c.in-Ok.program.tree c.in-Ok.ensures.limits

-- ---- the files

pub returns-in-Err-clause-leaves : goal.returns-in-Err-clause-leaves
returns-in-Err-clause-leaves g c = rw c.read_program.ensures.holds (early_journal 1 3 (map string_bytes c.args.files.now) (g.D.Desk.holds c.args.desk.now) _ c.in-Err.ending _ _ c.in-Err.ensures.ends)

pub returns-in-Err-clause-faults : goal.returns-in-Err-clause-faults
returns-in-Err-clause-faults g c =
    let holds = g.D.Desk.holds c.args.desk.now in
    let writes = early_writes (JournalAnswers (map string_bytes c.args.files.now)) holds c.in-Err.ending _ (program_ends 1 3 (map string_bytes c.args.files.now) holds c.in-Err.ending c.in-Err.ensures.ends) in
    rw c.read_program.ensures.write_faults (output_counts c.in-Err.ending _ _ _ writes)

pub returns-in-Err-clause-never_usage : goal.returns-in-Err-clause-never_usage
returns-in-Err-clause-never_usage g c =
    let holds = g.D.Desk.holds c.args.desk.now in
    early_is_no_usage (JournalAnswers (map string_bytes c.args.files.now)) holds c.in-Err.ending (program_ends 1 3 (map string_bytes c.args.files.now) holds c.in-Err.ending c.in-Err.ensures.ends)

pub returns-in-Err-clause-output : goal.returns-in-Err-clause-output
returns-in-Err-clause-output g c =
    let holds = g.D.Desk.holds c.args.desk.now in
    early_outputs (JournalAnswers (map string_bytes c.args.files.now)) holds c.in-Err.ending _ (program_ends 1 3 (map string_bytes c.args.files.now) holds c.in-Err.ending c.in-Err.ensures.ends)

-- ---- the run

pub returns-in-Err-play_noted-clause-leaves : goal.returns-in-Err-play_noted-clause-leaves
returns-in-Err-play_noted-clause-leaves g c =
    let plays = c.in-Err-play_noted.ensures.plays in
    rw c.in-Ok.ensures.holds (short_journal c.in-Ok.program.tree 1 _ c.in-Err-play_noted.ending _ _ (g.D.Desk.holds c.args.desk.now) plays.0 plays.1)

pub returns-in-Err-play_noted-clause-read_faults : goal.returns-in-Err-play_noted-clause-read_faults
returns-in-Err-play_noted-clause-read_faults g c =
    let plays = c.in-Err-play_noted.ensures.plays in
    run_reads c.in-Ok.program.tree 1 c.in-Err-play_noted.ending _ _ _ _ (set_plays c.in-Ok.program.tree 1 c.in-Err-play_noted.ending _ _ plays.0) c.in-Ok.ensures.read_faults

pub returns-in-Err-play_noted-clause-missed : goal.returns-in-Err-play_noted-clause-missed
returns-in-Err-play_noted-clause-missed g c = let plays = c.in-Err-play_noted.ensures.plays in run_misses_none c.in-Ok.program.tree 1 1 3 _ c.in-Err-play_noted.ending _ _ _ plays.0

pub returns-in-Err-play_noted-clause-faults : goal.returns-in-Err-play_noted-clause-faults
returns-in-Err-play_noted-clause-faults g c = rw c.in-Ok.ensures.write_faults (output_counts c.in-Err-play_noted.ending _ _ _ c.in-Err-play_noted.ensures.faults)

pub returns-in-Err-play_noted-clause-never_usage : goal.returns-in-Err-play_noted-clause-never_usage
returns-in-Err-play_noted-clause-never_usage g c =
    let plays = c.in-Err-play_noted.ensures.plays in run_is_no_usage c.in-Ok.program.tree 1 c.in-Err-play_noted.ending _ _ (set_plays c.in-Ok.program.tree 1 c.in-Err-play_noted.ending _ _ plays.0)

pub returns-in-Err-play_noted-clause-word : goal.returns-in-Err-play_noted-clause-word
returns-in-Err-play_noted-clause-word g c =
    let plays = c.in-Err-play_noted.ensures.plays in
    run_word c.in-Ok.program.tree (length c.args.files.now + 1) 1 c.in-Err-play_noted.ending _ _ (omega (arith, c.requires.some)) (set_plays c.in-Ok.program.tree 1 c.in-Err-play_noted.ending _ _ plays.0)

pub returns-in-Err-play_noted-clause-output : goal.returns-in-Err-play_noted-clause-output
returns-in-Err-play_noted-clause-output g c =
    let holds = g.D.Desk.holds c.args.desk.now in
    let words = map string_bytes c.args.files.now in
    let plays = c.in-Err-play_noted.ensures.plays in
    play_outputs (JournalAnswers words) c.in-Ok.program.tree most_turns 1 holds c.in-Err-play_noted.ending _ _ c.in-Ok.ensures.limits.turns (program_runs _ 1 3 words c.in-Ok.program holds c.in-Ok.ensures.held) plays.0

-- ---- the journal

pub returns-in-Ok-write_file-clause-leaves : goal.returns-in-Ok-write_file-clause-leaves
returns-in-Ok-write_file-clause-leaves g c =
    let file = c.index-files-1.result in
    let named : word_at (map string_bytes c.args.files.now) 1 ≡ string_bytes file =
    get_or-map string_bytes c.args.files.now 1 file [] (omega (arith, c.requires.some)) ∙ ap string_bytes (sym c.index-files-1.is) in
    let wrote = rw (c.as_bytes.ensures.value, c.deref.ensures.value, c.in-Ok.ensures.holds) at c.in-Ok-write_file.ensures.holds in
    rw named (whole_journal c.in-Ok.program.tree (string_bytes file) c.in-Ok-play_noted.journal.items _ _ _ _ c.in-Ok-play_noted.ensures.plays wrote)

pub returns-in-Ok-write_file-clause-output : goal.returns-in-Ok-write_file-clause-output
returns-in-Ok-write_file-clause-output g c =
    let holds = g.D.Desk.holds c.args.desk.now in
    let words = map string_bytes c.args.files.now in
    let plays = noted_plays c.in-Ok.program.tree 1 c.in-Ok-play_noted.journal.items _ _ c.in-Ok-play_noted.ensures.plays in
    play_outputs (JournalAnswers words) c.in-Ok.program.tree most_turns 1 holds Done _ _ c.in-Ok.ensures.limits.turns (program_runs _ 1 3 words c.in-Ok.program holds c.in-Ok.ensures.held) plays

pub returns-clause-leaves : goal.returns-clause-leaves
returns-clause-leaves g c =
    let file = c.index-files-1.result in
    let named : word_at (map string_bytes c.args.files.now) 1 ≡ string_bytes file =
    get_or-map string_bytes c.args.files.now 1 file [] (omega (arith, c.requires.some)) ∙ ap string_bytes (sym c.index-files-1.is) in
    let wrote = rw (c.as_bytes.ensures.value, c.deref.ensures.value, c.in-Ok.ensures.holds) at c.in-Err-write_file.ensures.holds in
    rw (named, c.from.ensures) (cut_journal c.in-Ok.program.tree (string_bytes file) c.in-Ok-play_noted.journal.items c.in-Err-write_file.fault _ _ _ _ c.in-Ok-play_noted.ensures.plays wrote)

pub returns-clause-output : goal.returns-clause-output
returns-clause-output g c =
    let holds = g.D.Desk.holds c.args.desk.now in
    let words = map string_bytes c.args.files.now in
    let plays = noted_plays c.in-Ok.program.tree 1 c.in-Ok-play_noted.journal.items _ _ c.in-Ok-play_noted.ensures.plays in
    let whole = play_outputs (JournalAnswers words) c.in-Ok.program.tree most_turns 1 holds Done _ _ c.in-Ok.ensures.limits.turns (program_runs _ 1 3 words c.in-Ok.program holds c.in-Ok.ensures.held) plays in
    rw c.from.ensures (unwritten_outputs (JournalAnswers words) holds c.in-Err-write_file.fault _ _ whole)
